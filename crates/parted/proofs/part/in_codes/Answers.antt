-- `part::in_codes` meets its contract: the letters at the part's sites are taken out, made least and put back.
use Rattle.parted.proofs.Replacing.{site-inside, site-apart, read-accepted, read_letters, least-bytes, least-long, least-accepted, least-letters, placed-long, placed-here, placed-there}
use Rattle.parted.specs.Steps.{site_of}
use Rattle.parts.specs.Numbered.{read_by}
use Rattle.paths.specs.Paths.{Says}
use Rattle.elements.specs.HeldGroup.{generators_in}
use Rattle.elements.specs.Letters.{codes}
use Rattle.action.specs.Orbit.{least, index_back}
use Rattle.pauli_word.proofs.Words.{decode-length}
use Rattle.pauli_word.specs.Bytes.{letters_in, bytes_of}
use Rattle.pauli_word.specs.Word.{Word}
use Prim.Native.Nat.{ℕ}
use native.Mathlib.Omega.{arith}
use mathlib.Core.Path.{◌≡◌, ap, subst, ◌∙◌}
use Rattle.parted.proofs.part.in_codes.Goals as goal

pub take_out-requires : goal.take_out-requires
take_out-requires c =
    let (σ, room) = c.requires.numbering in
    let q = c.requires.codes_len in record {
      out_in_bounds = omega (arith, q.1, room);
      by_index = site-inside σ (c.unpack.auto.letters ∙ q.0) q.1;
    }

pub pack-word-requires : goal.pack-word-requires
pack-word-requires c =
    omega (arith, c.take_out.auto.out, c.requires.codes_len.1, c.requires.tables.sites)

pub least_by-led-requires : goal.least_by-led-requires
least_by-led-requires c =
    let w = letters_in c.args.sites c.args.row.now in
    let site = site_of c.args.table.now in
    let read : c.copy.new.dst ≡ bytes_of (read_by c.args.own_group.now.sites site w) =
    c.copy.ensures
    ∙ c.pack-word.ensures (read_by c.args.own_group.now.sites site w)
    (c.take_out.ensures w c.unpack.ensures ∙ ap (λ (k : ℕ). codes (read_by k site w)) c.requires.codes_len.1) in
    let q = c.requires.codes_len in record {
      tables = c.requires.tables;
      found = c.requires.found;
      order_value = c.requires.order_value;
      accepted_word = read-accepted c.requires.tables.sites site w read;
      left_len = (q.4, q.3);
    }

pub unpack-requires-2 : goal.unpack-requires-2
unpack-requires-2 c =
    let w = letters_in c.args.sites c.args.row.now in
    let site = site_of c.args.table.now in
    let read : c.copy.new.dst ≡ bytes_of (read_by c.args.own_group.now.sites site w) =
    c.copy.ensures
    ∙ c.pack-word.ensures (read_by c.args.own_group.now.sites site w)
    (c.take_out.ensures w c.unpack.ensures ∙ ap (λ (k : ℕ). codes (read_by k site w)) c.requires.codes_len.1) in record {
      accepted_word = least-accepted c.requires.tables.sites site w read c.requires.tables.valid c.least_by-led.ensures.word;
      letters_len = c.take_out.auto.out ∙ c.requires.codes_len.1;
    }

pub put_back-requires : goal.put_back-requires
put_back-requires c =
    let (σ, room) = c.requires.numbering in
    let q = c.requires.codes_len in
    let cl = c.unpack.auto.letters ∙ q.0 in
    let ll = c.unpack-2.auto.letters ∙ c.take_out.auto.out ∙ q.1 in record {
      part_in_bounds = omega (arith, ll, room);
      by_index = site-inside σ cl ll;
      by_index_2 = site-apart σ cl ll;
    }

pub pack-whole-requires : goal.pack-whole-requires
pack-whole-requires c =
    let cl = c.put_back.auto.codes ∙ c.unpack.auto.letters ∙ c.requires.codes_len.0 in
    omega (arith, cl, c.requires.accepted_word.sites)

pub returns : goal.returns
returns c =
    let a = c.args in
    let w = letters_in c.args.sites c.args.row.now in
    let site = site_of c.args.table.now in
    let read : c.copy.new.dst ≡ bytes_of (read_by c.args.own_group.now.sites site w) =
    c.copy.ensures
    ∙ c.pack-word.ensures (read_by c.args.own_group.now.sites site w)
    (c.take_out.ensures w c.unpack.ensures ∙ ap (λ (k : ℕ). codes (read_by k site w)) c.requires.codes_len.1) in
    let ok = c.requires.accepted_word in
    let hs = generators_in a.own_group.now.generators a.own_group.now.sites a.own_group.now.targets.now a.own_group.now.orders.now in
    let letters = read_letters c.requires.tables.sites site w read in
    let long = least-long c.requires.tables.sites site w read c.requires.tables.valid c.least_by-led.ensures.word in
    let out = c.unpack-2.ensures ∙ ap codes (least-letters c.requires.tables.sites site w read c.requires.tables.valid c.least_by-led.ensures.word) in record {
      index = c.least_by-led.ensures.index ∙ ap (index_back hs) letters;
      word = λ y placed. c.copy-2.ensures
          ∙ c.pack-whole.ensures y
          (c.put_back.ensures (least hs (read_by a.own_group.now.sites site w)) w y out c.unpack.ensures (placed-long placed long (decode-length ok)) (placed-here placed long (decode-length ok)) (placed-there placed long (decode-length ok)));
      own = read;
      least = least-bytes c.requires.tables.sites site w read c.requires.tables.valid c.least_by-led.ensures.word;
      fixing = subst (λ (x : Word). Says c.least_by-led.result.fixing hs x c.least_by-led.new.left) letters c.least_by-led.ensures.fixing;
    }
