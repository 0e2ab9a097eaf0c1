-- `moves::advance` meets its contract.
use mathlib.Core.Path.{refl}
use Rattle.rotation.proofs.Packs.{fresh-length}
use Rattle.std.proofs.lemmas.Option.{MatchOption-at_some}
use Rattle.paths.specs.Paths.{ReadyFor}
use Rattle.paths.proofs.moves.advance.Goals as goal

pub advance_planes-requires : goal.advance_planes-requires
advance_planes-requires c =
    let m = c.args.m in
    let long = fresh-length m c.requires.sites_bound.1 in record {
      tables = c.requires.tables;
      ready = rw long (MatchOption-at_some Unit (λ s. ReadyFor c.args.m c.args.group.now s c.args.masks.now) _ c.in-Some.is c.requires.ready);
      sites_bound = (rw long c.requires.sites_bound.0, rw long c.requires.sites_bound.1, refl);
      accepted_word = c.requires.accepted_word;
    }
