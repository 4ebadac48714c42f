-- What a row gives leads to the step of the definition.
use Rattle.std.proofs.Common.{◌≡◌, zero, ◌+◌, ◌<◌, ◌≤◌, ◌^◌, Bool, true, false, ◌&&◌, List, [], ◌∷◌, length, map, nat_lt, nat_le, if◌then◌else◌, refl, ap, ap₂, ◌∙◌, arith}
use Rattle.std.specs.List.{All}
use Rattle.std.proofs.lemmas.Bool.{lt-ltb, le-leb}
use Rattle.std.proofs.lemmas.List.Elements.{All-head, All-tail}
use Rattle.pl_term.specs.Tree.{Trees}
use Rattle.pl_model.specs.History.{Proc}
use Rattle.pl_model.specs.Balls.{error_ball, no_cells, no_choices, no_inferences}
use Rattle.pl_model.specs.BuiltinRows.{Answer, Row, gives, table, error, plain_answer}
use Rattle.pl_model.specs.Resolution.{Limits, Node, answers, State, collected_cells}
use Rattle.pl_model.specs.Control.{answer_tried, first_answer, next_answer, raised, several, with_row}
use Rattle.builtin_rows.specs.Given.{answered, thrown, full, given, terms_of, with_room}
use Rattle.builtin_rows.specs.Steps.{IsPlain, IsPlainRow, answer_led, given_led, line_led}

plain_is : (a : Answer) → IsPlain a → a ≡ plain_answer a.terms
plain_is a p = ap₂ (λ f m. record { terms = a.terms; fresh = f; made = m }) p.fresh p.made

plains_are : (xs : List Answer) → All IsPlain xs → xs ≡ map plain_answer (terms_of xs)
plains_are [] all = refl
plains_are (a ∷ xs) all =
    ap₂ (λ b bs. b ∷ bs) (plain_is a (All-head IsPlain a xs all)) (plains_are xs (All-tail IsPlain a xs all))

module _ (l : Limits) (n : Node) (p : Proc) (ts : Trees) where
  -- An answer with its room.
  room_led : (s : State) (a : Answer) (b c : Bool)
      → (if b
      then (if c then answer_led s n ts a.terms a.fresh a.made else raised s n no_cells p)
      else raised s n no_inferences p)
      ≡ given_led l s n p ts (if b then (if c then answered (a.terms ∷ []) a.fresh a.made else full a.made) else thrown (error_ball no_inferences p))
  room_led s a true true = refl
  room_led s a true false = refl
  room_led s a false c = refl

  pub tried_led : (s : State) (a : Answer)
      → answer_tried l s n p ts a ≡ given_led l s n p ts (with_room p s.next (n.used + collected_cells s.choices) l.cells a)
  tried_led s a = room_led s a (nat_lt (s.next + a.fresh) (2 ^ 64)) (nat_le (n.used + collected_cells s.choices + a.made) l.cells)

  -- An answer that makes no terms, where the numbers and cells that are used fit.
  plain_led : (s : State) (us : Trees) → s.next < 2 ^ 64 → n.used + collected_cells s.choices ≤ l.cells
      → answer_tried l s n p ts (plain_answer us) ≡ answer_led s n ts us zero zero
  plain_led s us few fits =
      ap₂
      (λ b c. if b then (if c then answer_led s n ts us zero zero else raised s n no_cells p) else raised s n no_inferences p)
      (lt-ltb (s.next + zero) (2 ^ 64) (omega (arith, few))) (le-leb (n.used + collected_cells s.choices + zero) l.cells (omega (arith, fits)))

  plains_led : (s : State) (xs : List Answer) → s.next < 2 ^ 64 → n.used + collected_cells s.choices ≤ l.cells → All IsPlain xs
      → first_answer l s n p ts xs ≡ given_led l s n p ts (answered (terms_of xs) zero zero)
  plains_led s [] few fits all = refl
  plains_led s (a ∷ []) few fits all =
      ap (answer_tried l s n p ts) (plain_is a (All-head IsPlain a [] all)) ∙ plain_led s a.terms few fits
  plains_led s (a ∷ (b ∷ bs)) few fits all = go (nat_le l.choices (length s.choices))
    where
      more : State
      more = record s { choices = answers p ts (b ∷ bs) n ∷ s.choices }

      behind : State
      behind = record s { choices = answers p ts (map plain_answer (terms_of (b ∷ bs))) n ∷ s.choices }

      tried : answer_tried l more n p ts a ≡ answer_led behind n ts a.terms zero zero
      tried =
          ap (answer_tried l more n p ts) (plain_is a (All-head IsPlain a (b ∷ bs) all))
          ∙ ap (λ cs. answer_tried l (record s { choices = answers p ts cs n ∷ s.choices }) n p ts (plain_answer a.terms))
          (plains_are (b ∷ bs) (All-tail IsPlain a (b ∷ bs) all))
          ∙ plain_led behind a.terms few fits

      go : (c : Bool)
          → (if true && c then raised s n no_choices p else next_answer l s n p ts (a ∷ (b ∷ bs)))
          ≡ (if c then raised s n no_choices p else answer_led behind n ts a.terms zero zero)
      go true = refl
      go false = tried

  -- The first of the answers of a table, tried after the choice point before, or as the goal is called.
  pub next_line_led : (s : State) (us : Trees) (later : List Answer) → s.next < 2 ^ 64 → n.used + collected_cells s.choices ≤ l.cells
      → next_answer l s n p ts (plain_answer us ∷ later) ≡ line_led s n p ts us later
  next_line_led s us [] few fits = plain_led s us few fits
  next_line_led s us (a ∷ xs) few fits = plain_led (record s { choices = answers p ts (a ∷ xs) n ∷ s.choices }) us few fits

  pub first_line_led : (s : State) (us : Trees) (later : List Answer) → s.next < 2 ^ 64 → n.used + collected_cells s.choices ≤ l.cells
      → first_answer l s n p ts (plain_answer us ∷ later)
      ≡ (if several (plain_answer us ∷ later) && nat_le l.choices (length s.choices) then raised s n no_choices p else line_led s n p ts us later)
  first_line_led s us later few fits =
      ap
      (λ q. if several (plain_answer us ∷ later) && nat_le l.choices (length s.choices) then raised s n no_choices p else q)
      (next_line_led s us later few fits)

  -- The step of the definition is the one to which what the row gives leads.
  pub row_led : (s : State) (r : Row) → s.next < 2 ^ 64 → n.used + collected_cells s.choices ≤ l.cells → IsPlainRow r
      → with_row l s n p ts r ≡ given_led l s n p ts (given p ts s.next (n.used + collected_cells s.choices) l.cells r)
  unfolding with_row given
  row_led s (gives []) few fits plain = refl
  row_led s (gives (a ∷ [])) few fits plain = tried_led s a
  row_led s (gives (a ∷ (b ∷ bs))) few fits plain = plains_led s (a ∷ (b ∷ bs)) few fits plain
  row_led s (table xs) few fits plain = refl
  row_led s (error e) few fits plain = refl
