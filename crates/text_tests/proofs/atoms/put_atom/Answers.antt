use Rattle.std.proofs.Common.{◌≡◌, ℕ, true, ap, refl, ◌∙◌}
use Rattle.std.specs.Option.{is_some}
use Rattle.pl_term.specs.Tree.{Chars}
use Rattle.atom_api.specs.Interns.{Holds}
use Rattle.atom_api.specs.Names.{Names}
use Rattle.atom_api.proofs.SlotNames.{with_here}
use Rattle.text_tests.proofs.atoms.put_atom.Goals as goal

held_now : {m n : Names} {t : Chars} {a : ℕ} → Holds m t a n → is_some (n a) ≡ true
held_now {m} {n} {t} {a} h = ap (λ (q : Names). is_some (q a)) h.now ∙ ap is_some (with_here m a t a refl)

pub text-requires : goal.text-requires
text-requires g c = held_now c.in-Is.ensures.answer
