-- Rows of places that stand for rows of the definition.
use Rattle.std.proofs.Common.{◌≡◌, ℕ, zero, ◌+◌, ◌<◌, ◌≤◌, ◌^◌, List, [], ◌∷◌, Result, Ok, Err, IfOk, if◌then◌else◌, refl, sym, ap, ap₂, subst, ◌∙◌, append-nil, arith}
use Rattle.std.proofs.lemmas.Bool.{lt-ltb, lt-leb}
use Rattle.std.proofs.lemmas.List.Elements.{All-cons, All-nil}
use Rattle.pl_term.specs.Tree.{Tree, Trees}
use Rattle.pl_model.specs.History.{Proc}
use Rattle.pl_model.specs.Balls.{error_ball, no_inferences}
use Rattle.pl_model.specs.BuiltinRows as defined
use Rattle.pl_model.specs.BuiltinRows.{Answer, error, one_answer}
use Rattle.pl_model.specs.TermBuiltins.{makes}
use Rattle.atom_api.specs.Names.{Names}
use Rattle.term_store.specs.declared.words.Place.{Place}
use Rattle.term_store.specs.declared.faults.StoreFault.{StoreFault}
use Rattle.term_store.specs.declared.faults.StoreFault.TheVariants.{CellsFull as FaultFull, Memory}
use Rattle.term_store.specs.Contents.{Contents, Holds, numbers_of}
use Rattle.world_builtins.specs.Naming.{IsHeldAt}
use Rattle.builtin_rows.specs.Given.{answered, full, given, thrown, with_room}
use Rattle.builtin_rows.specs.Rows.{ArePlaced, IsRow, Makes, refusals_of, row_refusals, terms_at}
use Rattle.builtin_rows.specs.declared.row.Row.{Row}
use Rattle.builtin_rows.specs.declared.row.Row.TheVariants.{CellsFull as RowFull, Holds as RowHolds}
use Rattle.builtin_rows.proofs.Balls.{two_places}
use Rattle.builtin_rows.proofs.Giving.{gives_error, gives_one}
use Rattle.builtin_rows.proofs.Numbers.{has_room}
use Rattle.builtin_atom.specs.Answering.{IsRowOf, charged, pair_at}

pub with_ok : {A E : Type 0} (P Q : A → Type 0) (r : Result A E) → ((a : A) → P a → Q a) → IfOk r P → IfOk r Q
with_ok P Q (Ok a) f h = f a h
with_ok P Q (Err e) f h = tt

-- The same row of the definition.
pub row_as : (s : Contents) (p : Proc) (ts : Trees) (row same : defined.Row) (n : Names) (t : Contents) (r : Row) → row ≡ same → IsRowOf s p ts row n t r → IsRowOf s p ts same n t r
row_as s p ts row same n t r e h = subst (λ (x : defined.Row). IsRowOf s p ts x n t r) e h

pub rows_as : {E : Type 0} (r : Result Row E) (s : Contents) (p : Proc) (ts : Trees) (row same : defined.Row) (n : Names) (t : Contents) → row ≡ same
    → IfOk r (IsRowOf s p ts row n t) → IfOk r (IsRowOf s p ts same n t)
rows_as r s p ts row same n t e h = subst (λ (x : defined.Row). IfOk r (IsRowOf s p ts x n t)) e h

-- An error is thrown.
pub error_row : (s : Contents) (p : Proc) (ts : Trees) (e : Tree) (n : Names) (t : Contents) (r : Row) → ((next : ℕ) → IsRow s next ts (thrown (error_ball e p)) n t r)
    → IsRowOf s p ts (error e) n t r
error_row s p ts e n t r h next below = subst (λ g. IsRow s next ts g n t r) (sym (gives_error p ts next s.used s.budget e)) (h next)

-- What one answer gives.
abbrev making : Trees → ℕ → Answer
making us k = record { terms = us; fresh = zero; made = k }

no_room : (p : Proc) (next used budget : ℕ) (a : Answer) → next + a.fresh < 2 ^ 64 → budget < used + a.made → with_room p next used budget a ≡ full a.made
no_room p next used budget a few over =
    ap₂
    (λ b c. if b then (if c then answered (a.terms ∷ []) a.fresh a.made else full a.made) else thrown (error_ball no_inferences p))
    (lt-ltb (next + a.fresh) (2 ^ 64) few) (lt-leb (used + a.made) budget over)

pub fits_is : (p : Proc) (ts us : Trees) (next used budget k : ℕ) → next < 2 ^ 64 → used + k ≤ budget → given p ts next used budget (makes us k) ≡ answered (us ∷ []) zero k
fits_is p ts us next used budget k below fits =
    gives_one p ts next used budget (making us k) ∙ has_room p next used budget (making us k) (omega (arith, below)) fits

pub full_is : (p : Proc) (ts us : Trees) (next used budget k : ℕ) → next < 2 ^ 64 → budget < used + k → given p ts next used budget (makes us k) ≡ full k
full_is p ts us next used budget k below over =
    gives_one p ts next used budget (making us k) ∙ no_room p next used budget (making us k) (omega (arith, below)) over

pub makes_charged : (next : ℕ) (s : Contents) (k : ℕ) → Makes s next zero k (charged s k)
makes_charged next s k =
    record {
      others = λ p held. refl;
      adds =
          record {
            places = λ p held. held;
            marks = λ m mark. record { within = mark.within; used = omega (arith, mark.used); fit = mark.fit };
            back = λ m mark. refl;
          };
      numbers = sym (append-nil (numbers_of s));
      used = refl;
      budget = refl;
    }

pub charged_none : (s : Contents) → charged s 0 ≡ s
charged_none s = ap (λ n. let t : Contents = record { heap = s.heap; used = n; budget = s.budget } in t) (omega arith)

-- The answer with the terms at two places.
pub answer_parts : (n : Names) (s t : Contents) (next k : ℕ) (us : Trees) (p q : Place) (ps : List Place) → ps ≡ p ∷ (q ∷ []) → us ≡ pair_at n t p q
    → Makes s next zero k t → Holds t p → Holds t q → IsHeldAt n t p → IsHeldAt n t q
    → ((us ∷ []) ≡ (terms_at n t ps ∷ [])) × ((zero ≡ zero) × (Makes s next zero k t × ArePlaced n t ps))
answer_parts n s t next k us p q ps e is makes hp hq np nq =
    subst (λ (xs : List Place). ((us ∷ []) ≡ (terms_at n t xs ∷ [])) × ((zero ≡ zero) × (Makes s next zero k t × ArePlaced n t xs))) (sym e) (
      ap (λ x. x ∷ []) is,
      (refl, (makes, record { inside = two_places t p q hp hq; held = All-cons (IsHeldAt n t) p (q ∷ []) np (All-cons (IsHeldAt n t) q [] nq (All-nil (IsHeldAt n t))) })),
    )

-- A row that hands on no refusal of an atom.
pub none_refused : {E : Type 0} (r : Result Row E) → IfOk r (λ x. row_refusals x ≡ []) → refusals_of r ≡ []
none_refused (Ok x) h = h
none_refused (Err e) h = refl

-- The cells do not fit.
full_parts : (f : StoreFault) (u n v k : ℕ) → f ≡ FaultFull u n → f ≡ FaultFull v k → (u ≡ v) × (n ≡ k)
full_parts f u n v k e is = (ap used_of (sym e ∙ is), ap need_of (sym e ∙ is))
  where
    used_of : StoreFault → ℕ
    used_of (FaultFull a b) = a
    used_of Memory = 0

    need_of : StoreFault → ℕ
    need_of (FaultFull a b) = b
    need_of Memory = 0

pub full_row : (s t : Contents) (p : Proc) (ts us : Trees) (m : Names) (k used need : ℕ) (f : StoreFault) → f ≡ FaultFull used need → f ≡ FaultFull s.used k
    → s.budget < s.used + k → t ≡ s → IsRowOf s p ts (makes us k) m t (RowFull used need)
full_row s t p ts us m k used need f e is over same next below =
    let parts : (used ≡ s.used) × (need ≡ k) = full_parts f used need s.used k e is in
    subst (λ g. IsRow s next ts g m t (RowFull used need)) (sym (full_is p ts us next s.used s.budget k below over)) (parts.0, (parts.1, same))

-- The answer with the arguments as they are.
pub holds_row : (s t : Contents) (p : Proc) (ts : Trees) (m : Names) → t ≡ charged s 0 → s.used + 0 ≤ s.budget → IsRowOf s p ts (one_answer ts) m t RowHolds
holds_row s t p ts m e fits next below =
    subst (λ g. IsRow s next ts g m t RowHolds) (sym (fits_is p ts ts next s.used s.budget 0 below fits)) (refl, (refl, (refl, e ∙ charged_none s)))

-- The answer with the terms at two places, for which cells were taken.
pub charged_parts : (n : Names) (s t : Contents) (next k : ℕ) (p q : Place) (ps : List Place) → t ≡ charged s k → ps ≡ p ∷ (q ∷ []) → Holds s p → Holds s q
    → IsHeldAt n s p → IsHeldAt n s q → ((pair_at n s p q ∷ []) ≡ (terms_at n t ps ∷ [])) × ((zero ≡ zero) × (Makes s next zero k t × ArePlaced n t ps))
charged_parts n s t next k p q ps e is hp hq np nq =
    subst (λ (u : Contents). ((pair_at n s p q ∷ []) ≡ (terms_at n u ps ∷ [])) × ((zero ≡ zero) × (Makes s next zero k u × ArePlaced n u ps))) (sym e)
    (answer_parts n s (charged s k) next k (pair_at n s p q) p q ps is refl (makes_charged next s k) hp hq np nq)

-- The row of a call, which is one of a row of the definition.
pub ok_as : {E : Type 0} (r : Result Row E) (s : Contents) (p : Proc) (ts : Trees) (row same : defined.Row) (n : Names) (t : Contents) → row ≡ same
    → (Q : Row → Type 0) → ((x : Row) → Q x → IsRowOf s p ts row n t x) → IfOk r Q → IfOk r (IsRowOf s p ts same n t)
ok_as r s p ts row same n t e Q f h = with_ok Q (IsRowOf s p ts same n t) r (λ x q. row_as s p ts row same n t x e (f x q)) h
