use Rattle.std.proofs.Common.{◌≡◌, ◌+◌, ◌-◌, ◌*◌, ◌%◌, ◌<◌, ℕ, sym, ap, ◌∙◌, arith}
use Rattle.std.proofs.lemmas.Nat.{mod-mul-add}
use Rattle.atom_words.proofs.slots.in_circle.Goals as goal

-- what is left where a place is at most once round
left : (place slots n rest : ℕ) → rest < slots → place ≡ n * slots + rest → rest ≡ place % slots
left place slots n rest low e = sym (ap (λ (m : ℕ). m % slots) e ∙ mod-mul-add n slots rest low)

pub returns-then-place-slots : goal.returns-then-place-slots
returns-then-place-slots c = left c.args.place c.args.slots 0 c.args.place c.if-place-slots.true (omega arith)
