-- `answer::write_answer` meets its contract: each arm writes the line of its case.
use borrow.Author.Rules.{rules}
use Rattle.phase_file.proofs.answer.write_answer.Goals as goal

pub returns-in-Ok : goal.returns-in-Ok
returns-in-Ok g c =
    rw c.in-Ok.is (record {
      place = c.append.ensures.place;
      list = c.append.ensures.list;
    })

pub returns-in-Err : goal.returns-in-Err
returns-in-Err g c =
    rw c.in-Err.is (record {
      place = c.write_refusal.ensures.place;
      list = c.write_refusal.ensures.list;
    })
