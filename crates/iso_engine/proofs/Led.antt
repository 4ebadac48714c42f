-- What a row of the definition leads to, by what it gives.
use Rattle.std.proofs.Common.{◌≡◌, ℕ, ◌+◌, ◌<◌, ◌^◌, Bool, true, false, cond, [], ◌∷◌, drop, nat_lt, nat_le, refl, ap₂}
use Rattle.std.proofs.lemmas.Bool.Decides.{Decides-ltb}
use Rattle.pl_term.specs.Tree.{Trees}
use Rattle.pl_model.specs.Balls.{error_ball, no_cells, no_inferences}
use Rattle.pl_model.specs.BuiltinRows.{Answer, Row, gives, table, error, unifying}
use Rattle.pl_model.specs.Control.{answer_tried, failed, first_answer, raised, with_row}
use Rattle.pl_model.specs.History.{Proc}
use Rattle.pl_model.specs.Resolution.{Limits, Node, State, collected_cells, throwing}
use Rattle.builtin_rows.specs.Given.{Given, answered, full, given, lined, thrown}
use Rattle.builtin_rows.specs.Steps.{answer_led}

-- A state to which what is given leads. One answer has numbers for its variables; of several nothing is said.
abbrev pub LedTo : Limits → State → Node → Proc → Trees → State → Given → Type 0
LedTo l s n p ts q (answered [] f k) = q ≡ failed s
LedTo l s n p ts q (answered (us ∷ []) f k) =
    (s.next + f < 2 ^ 64) × (q ≡ answer_led s n ts us f k)
LedTo l s n p ts q (answered (us ∷ (vs ∷ vss)) f k) = Unit {0}
LedTo l s n p ts q (lined us xs k) = q ≡ first_answer l s n p ts (unifying us (drop k xs))
LedTo l s n p ts q (thrown b) = q ≡ record s { doing = throwing b n.goals }
LedTo l s n p ts q (full need) = q ≡ raised s n no_cells p

module _ (l : Limits) (s : State) (n : Node) (p : Proc) (ts : Trees) where
  abbrev used : ℕ
  used = n.used + collected_cells s.choices

  tried_is : (a : Answer) (b c : Bool) → nat_lt (s.next + a.fresh) (2 ^ 64) ≡ b → nat_le (used + a.made) l.cells ≡ c
      → answer_tried l s n p ts a
      ≡ cond b (cond c (answer_led s n ts a.terms a.fresh a.made) (raised s n no_cells p)) (raised s n no_inferences p)
  tried_is a b c few fits =
      ap₂ (λ x y. cond x (cond y (answer_led s n ts a.terms a.fresh a.made) (raised s n no_cells p)) (raised s n no_inferences p)) few fits

  -- An answer with its room.
  one_led : (a : Answer) (b c : Bool) → nat_lt (s.next + a.fresh) (2 ^ 64) ≡ b → nat_le (used + a.made) l.cells ≡ c
      → LedTo l s n p ts (answer_tried l s n p ts a)
      (cond b (cond c (answered (a.terms ∷ []) a.fresh a.made) (full a.made)) (thrown (error_ball no_inferences p)))
  one_led a true true few fits =
      ((Decides-ltb (s.next + a.fresh) (2 ^ 64)).0 few, tried_is a true true few fits)
  one_led a true false few fits = tried_is a true false few fits
  one_led a false c few fits = tried_is a false c few fits

  pub led : (r : Row) → LedTo l s n p ts (with_row l s n p ts r) (given p ts s.next used l.cells r)
  unfolding with_row given
  led (gives []) = refl
  led (gives (a ∷ [])) = one_led a (nat_lt (s.next + a.fresh) (2 ^ 64)) (nat_le (used + a.made) l.cells) refl refl
  led (gives (a ∷ (b ∷ bs))) = tt
  led (table xs) = refl
  led (error e) = refl
