-- The names of engines.
use Rattle.std.proofs.Common.{◌≡◌, ◌<◌, ◌++◌, ℕ, sym, ap, arith, codes, ne_eqb}
use Rattle.std.specs.Prelude.{◌^◌, if◌then◌else◌}
use Rattle.std.specs.Fmt.{decimal}
use Rattle.std.specs.Str.{IsAscii, chars}
use Rattle.std.proofs.lemmas.Fmt.{IsAscii-decimal}
use Rattle.std.proofs.lemmas.Str.{IsAscii-append, chars-IsAscii}
use Rattle.pl_model.specs.Threads.{goal_alias}
use Rattle.run_model.specs.Ends.{goal_name}

goal_ascii : IsAscii (codes "goal")
goal_ascii = grind arith

pub alias_text : (n : ℕ) → n < 2 ^ 64 → chars (codes "goal" ++ decimal n) ≡ goal_alias n
alias_text n low = chars-IsAscii (codes "goal" ++ decimal n) (IsAscii-append (codes "goal") (decimal n) goal_ascii (IsAscii-decimal n low))

pub number_text : (n : ℕ) → n < 2 ^ 64 → chars (decimal n) ≡ decimal n
number_text n low = chars-IsAscii (decimal n) (IsAscii-decimal n low)

pub main_name : (n : ℕ) → n ≡ 1 → codes "main" ≡ goal_name n
main_name n is = sym (ap goal_name is)

pub other_name : (n : ℕ) → (n ≡ 1 → ⊥) → goal_alias n ≡ goal_name n
other_name n other = ap (λ b. if b then codes "main" else goal_alias n) (sym (ne_eqb n 1 other))
