-- Answers that take numbers of variables and cells.
use Rattle.std.proofs.Common.{◌≡◌, ℕ, ◌+◌, ◌-◌, ◌<◌, ◌≤◌, ◌^◌, [], ◌∷◌, if◌then◌else◌, nat_le, ap, ap₂, arith}
use Rattle.std.proofs.lemmas.Bool.{le-ltb, lt-ltb, le-leb}
use Rattle.pl_model.specs.History.{Proc}
use Rattle.pl_model.specs.BuiltinRows.{Answer}
use Rattle.pl_model.specs.Balls.{error_ball, no_inferences}
use Rattle.builtin_rows.specs.Given.{answered, thrown, full, with_room}

pub no_numbers : (p : Proc) (next used budget fresh : ℕ) (a : Answer) → a.fresh ≡ fresh → (2 ^ 64 - 1) - next < fresh
    → with_room p next used budget a ≡ thrown (error_ball no_inferences p)
no_numbers p next used budget fresh a same over =
    ap
    (λ b. if b
    then (if nat_le (used + a.made) budget then answered (a.terms ∷ []) a.fresh a.made else full a.made)
    else thrown (error_ball no_inferences p))
    (le-ltb (next + a.fresh) (2 ^ 64) (omega (arith, same, over)))

-- There is room for the answer.
pub has_room : (p : Proc) (next used budget : ℕ) (a : Answer) → next + a.fresh < 2 ^ 64 → used + a.made ≤ budget
    → with_room p next used budget a ≡ answered (a.terms ∷ []) a.fresh a.made
has_room p next used budget a few fits =
    ap₂
    (λ b c. if b then (if c then answered (a.terms ∷ []) a.fresh a.made else full a.made) else thrown (error_ball no_inferences p))
    (lt-ltb (next + a.fresh) (2 ^ 64) few) (le-leb (used + a.made) budget fits)
