use Rattle.std.proofs.Common.{◌<◌, ◌^◌, pos, ap, w64, arith, ◌∙◌}
use mir.Val.{to_z, of_z}
use Rattle.std.proofs.lemmas.Int.{to_z_pos}
use Rattle.pl_term.specs.Tree.{int}
use Rattle.builtin_atom.proofs.codes.code_of.Goals as goal

pub returns : goal.returns
returns c s =
    let small : c.from.result < 2 ^ 63 = omega (arith, c.from.type_inv) in (
      (c.integer.ensures s).0,
      (c.integer.ensures s).1
          ∙ ap int
          (ap (λ z. to_z w64 (of_z w64 z)) c.from-2.ensures ∙ to_z_pos w64 c.from.result small ∙ ap (λ n. pos n) c.from.ensures),
    )
