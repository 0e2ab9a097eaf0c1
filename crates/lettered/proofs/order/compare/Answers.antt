-- `order::compare` meets its contract: the X bits decide, or the Z bits where they tie.
use Rattle.std.specs.declared.cmp.Ordering.{Ordering}
use mathlib.Core.Path.{sym, ap, ◌∙◌}
use mathlib.Core.List.{map}
use Rattle.pauli_word.specs.Calls.{order_of_bits}
use Rattle.pauli_word.proofs.WordOrder.{or_else_by}
use Rattle.elements.proofs.Codes.{z_of}
use Rattle.lettered.proofs.Comparing.{compared}
use Rattle.lettered.proofs.order.compare.Goals as goal

pub returns-in-Less : goal.returns-in-Less
returns-in-Less c =
    let rest = order_of_bits (map z_of c.args.a.now) (map z_of c.args.b.now) in
    compared c.requires (ap (λ (o : Ordering). or_else_by o rest) (sym c.in-Less.is ∙ c.compare_x.ensures))

pub returns-in-Equal : goal.returns-in-Equal
returns-in-Equal c =
    let rest = order_of_bits (map z_of c.args.a.now) (map z_of c.args.b.now) in
    compared c.requires (c.compare_z.ensures ∙ ap (λ (o : Ordering). or_else_by o rest) (sym c.in-Equal.is ∙ c.compare_x.ensures))

pub returns-in-Greater : goal.returns-in-Greater
returns-in-Greater c =
    let rest = order_of_bits (map z_of c.args.a.now) (map z_of c.args.b.now) in
    compared c.requires (ap (λ (o : Ordering). or_else_by o rest) (sym c.in-Greater.is ∙ c.compare_x.ensures))
