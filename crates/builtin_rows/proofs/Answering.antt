-- What is answered for a predicate, by what its function says of its row.
use Rattle.std.proofs.Common.{◌≡◌, ℕ, List, [], ◌++◌, Option, Result, Ok, Err, Some, IfOk, refl, sym, ap, subst, ◌∙◌, append-nil}
use Rattle.std.specs.List.{Contains}
use Rattle.pl_term.specs.Tree.{Chars, Trees}
use Rattle.pl_model.specs.Builtins.{row}
use Rattle.pl_model.specs.BuiltinRows as basic
use Rattle.atom_words.specs.declared.view.Refusal.{Refusal}
use Rattle.atom_api.specs.Names.{Names}
use Rattle.term_store.specs.Contents.{Contents}
use Rattle.world_api.specs.Texts.{Holds as Keeps}
use Rattle.world_api.specs.Gains.{Gains}
use Rattle.world_api.proofs.Gaining.{gains_nothing, gains_weaker}
use Rattle.builtin_rows.specs.declared.predicates.Pred.{Pred}
use Rattle.builtin_rows.specs.Predicates.{name_of}
use Rattle.builtin_rows.specs.declared.row.Row.{Row}
use Rattle.builtin_rows.specs.declared.row.Row.TheVariants.{Answer, Ball, CellsFull, Fails, Holds, Line, NeedsAtoms, Retry, Worn}
use Rattle.builtin_rows.specs.Given.{given_texts}
use Rattle.builtin_rows.specs.Rows.{IsRow, IsSingle, refusals_of, row_refusals}
use Rattle.builtin_rows.specs.Steps.{IsPlainRow}
use Rattle.builtin_rows.specs.Dispatching.{Does, Dispatches, HasLines, IsGivenText, given_by}

-- The definition has this row.
pub record IsDefined (p : Pred) (ts : Trees) (next : ℕ) (r : basic.Row) : Type 0 where
  pub row_is : row (name_of p) ts next ≡ Some r
  pub plain : IsPlainRow r

-- A row that is no line of a table.
pub single_lines : (p : Pred) (ts : Trees) (r : Row) → IsSingle r → HasLines p ts r
single_lines p ts Fails h = tt
single_lines p ts Holds h = tt
single_lines p ts (Answer ps fresh) h = tt
single_lines p ts (Line ps following) h = absurd h
single_lines p ts (Ball w) h = tt
single_lines p ts (CellsFull used need) h = tt
single_lines p ts (NeedsAtoms pass) h = tt
single_lines p ts (Retry cause) h = tt
single_lines p ts (Worn word) h = tt

-- Nothing was interned.
pub same_holds : (m n : Names) → n ≡ m → Keeps m n
same_holds m n e = subst (Keeps m) (sym e) (λ a t h. h)

same_refused : {E : Type 0} (old new : List Refusal) (result : Result Row E) → new ≡ old → IfOk result (λ r. row_refusals r ≡ [])
    → IfOk result (λ r. new ≡ old ++ row_refusals r)
same_refused old new (Err x) e h = tt
same_refused old new (Ok r) e h = e ∙ sym (append-nil old) ∙ ap (λ l. old ++ l) (sym h)

pub settles : {E : Type 0} (s t : Contents) (p : Pred) (ts : Trees) (next : ℕ) (m n : Names) (old new : List Refusal) (before after : Option (List Chars))
    (result : Result Row E) → n ≡ m → new ≡ old → after ≡ before
    → Does s next p ts n t result → IfOk result (λ r. row_refusals r ≡ []) → Dispatches s next p ts m n old new before after t result
settles s t p ts next m n old new before after result held refused asked does refuses =
    record {
      does = does;
      holds = same_holds m n held;
      refusals = same_refused old new result refused refuses;
      gains = gains_nothing (IsGivenText s next p ts) before after asked;
    }

-- By the row of the predicate.
row_does : {E : Type 0} (s t : Contents) (q : Pred) (ts : Trees) (next : ℕ) (n : Names) (d : basic.Row) (result : Result Row E) → IsDefined q ts next d
    → IfOk result (λ r. IsRow s next ts (given_by s next q ts d) n t r) → IfOk result IsSingle → Does s next q ts n t result
row_does s t q ts next n d (Ok r) is h single = record { row = record { means = d; row_is = is.row_is; plain = is.plain; stands = h }; lines = single_lines q ts r single }
row_does s t q ts next n d (Err e) is h single = record { row = tt; lines = tt }

pub row_refused : {E : Type 0} (old new : List Refusal) (result : Result Row E) → new ≡ old ++ refusals_of result → IfOk result (λ r. new ≡ old ++ row_refusals r)
row_refused old new (Ok r) h = h
row_refused old new (Err e) h = tt

-- The predicate is `q`, for which the definition has the row `d`. Nothing was interned.
pub settled : {E : Type 0} (s t : Contents) (p q : Pred) (ts : Trees) (next : ℕ) (m n : Names) (old new : List Refusal) (before after : Option (List Chars))
    (d : basic.Row) (result : Result Row E) → p ≡ q → IsDefined q ts next d
    → n ≡ m → new ≡ old → after ≡ before
    → IfOk result (λ r. IsRow s next ts (given_by s next q ts d) n t r) → IfOk result (λ r. row_refusals r ≡ []) → IfOk result IsSingle
    → Dispatches s next p ts m n old new before after t result
settled s t p q ts next m n old new before after d result same is held refused asked h refuses single =
    subst (λ x. Dispatches s next x ts m n old new before after t result) (sym same)
    (settles s t q ts next m n old new before after result held refused asked (row_does s t q ts next n d result is h single) refuses)

-- The texts that were asked of the atoms stand in the answer.
pub interned : {E : Type 0} (s t : Contents) (p q : Pred) (ts : Trees) (next : ℕ) (m n : Names) (old new : List Refusal) (before after : Option (List Chars))
    (d : basic.Row) (result : Result Row E) → p ≡ q → IsDefined q ts next d
    → Keeps m n → new ≡ old ++ refusals_of result → Gains (λ c. Contains (given_texts (given_by s next q ts d)) c) before after
    → IfOk result (λ r. IsRow s next ts (given_by s next q ts d) n t r) → IfOk result IsSingle
    → Dispatches s next p ts m n old new before after t result
interned s t p q ts next m n old new before after d result same is keeps refused gains h single =
    subst (λ x. Dispatches s next x ts m n old new before after t result) (sym same)
    (record {
      does = row_does s t q ts next n d result is h single;
      holds = keeps;
      refusals = row_refused old new result refused;
      gains = gains_weaker (λ c. Contains (given_texts (given_by s next q ts d)) c) (IsGivenText s next q ts) before after (λ c h. (d, is.row_is, h)) gains;
    })

-- What is said of a row, said otherwise.
pub ok_weaker : {A E : Type 0} (P Q : A → Type 0) (r : Result A E) → IfOk r P → ((a : A) → P a → Q a) → IfOk r Q
ok_weaker P Q (Ok a) h f = f a h
ok_weaker P Q (Err e) h f = tt
