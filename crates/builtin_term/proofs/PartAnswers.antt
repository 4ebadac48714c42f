-- Answers as they stand in a store.
use Rattle.std.proofs.Common.{◌≡◌, ℕ, zero, ◌+◌, ◌<◌, ◌≤◌, ◌^◌, List, [], ◌∷◌, refl, sym, ap, subst, ◌∙◌, append-nil, arith}
use Rattle.std.specs.Prelude.{IfNone, IfOk, IfSome, OnOk, Option, None, Some, Result, Ok, Err}
use Rattle.std.specs.List.{All}
use Rattle.std.proofs.lemmas.List.Elements.{All-cons, All-nil}
use Rattle.pl_term.specs.Tree.{Tree, Trees}
use Rattle.pl_model.specs.History.{Proc}
use Rattle.pl_model.specs.Balls.{error_ball}
use Rattle.pl_model.specs.BuiltinRows.{Answer, gives, error}
use Rattle.atom_api.specs.Names.{Names}
use Rattle.term_store.specs.Contents.{Contents, Holds, numbers_of}
use Rattle.world_builtins.specs.Naming.{IsHeldAt}
use Rattle.term_store.specs.declared.words.Place.{Place}
use Rattle.builtin_rows.specs.declared.row.Places.{Places}
use Rattle.builtin_rows.specs.declared.row.Row.{Row}
use Rattle.builtin_rows.specs.declared.row.Row.TheVariants as rows
use Rattle.builtin_rows.specs.Given.{thrown, with_room}
use Rattle.builtin_rows.specs.Rows.{ArePlaced, IsRow, Makes, listed, terms_at}
use Rattle.builtin_rows.proofs.Giving.{gives_error, gives_none, gives_one}
use Rattle.builtin_rows.proofs.Numbers.{has_room}
use Rattle.builtin_term.specs.Giving.{IsGiven}

-- What is said of an answer, said otherwise.
pub ok_weaker : {A E : Type 0} (P Q : A → Type 0) (r : Result A E) → IfOk r P → ((a : A) → P a → Q a) → IfOk r Q
ok_weaker P Q (Ok a) h f = f a h
ok_weaker P Q (Err e) h f = tt

pub on_ok : {A E : Type 0} (P Q : Type 0) (r : Result A E) → OnOk r P → (P → Q) → OnOk r Q
on_ok P Q (Ok a) h f = f h
on_ok P Q (Err e) h f = tt

pub on_both : {A E : Type 0} (P Q R : Type 0) (r : Result A E) → OnOk r P → OnOk r Q → (P → Q → R) → OnOk r R
on_both P Q R (Ok a) h k f = f h k
on_both P Q R (Err e) h k f = tt

pub some_of : {A : Type 0} (P : A → Type 0) (o : Option A) (a : A) → o ≡ Some a → IfSome o P → P a
some_of P o a e h = subst (λ x. IfSome x P) e h

pub none_of : {A : Type 0} (P : Type 0) (o : Option A) → o ≡ None → IfNone o P → P
none_of P o e h = subst (λ x. IfNone x P) e h

pub all_two : {A : Type 0} (P : A → Type 0) (x y : A) → P x → P y → All P (x ∷ (y ∷ []))
all_two P x y p q = All-cons P x (y ∷ []) p (All-cons P y [] q (All-nil P))

pub all_three : {A : Type 0} (P : A → Type 0) (x y z : A) → P x → P y → P z → All P (x ∷ (y ∷ (z ∷ [])))
all_three P x y z p q r = All-cons P x (y ∷ (z ∷ [])) p (all_two P y z q r)

-- A store of which cells were taken.
pub makes_room : (s t : Contents) (next k : ℕ) → t ≡ record s { used = s.used + k } → Makes s next zero k t
makes_room s t next k e =
    subst (Makes s next zero k) (sym e)
    (record {
      others = λ p held. refl;
      adds =
          record {
            places = λ p held. held;
            marks = λ m mark. record { within = mark.within; used = omega (arith, mark.used); fit = mark.fit };
            back = λ m mark. refl;
          };
      numbers = sym (append-nil (numbers_of s));
      used = refl;
      budget = refl;
    })

module _ (m : Names) (s t : Contents) (k : ℕ) (ps : List Place) (e : t ≡ record s { used = s.used + k }) where
  pub terms_still : terms_at m s ps ≡ terms_at m t ps
  terms_still = ap (λ u. terms_at m u ps) (sym e)

  pub placed_still : All (Holds s) ps → All (IsHeldAt m s) ps → ArePlaced m t ps
  placed_still inside held = subst (λ u. ArePlaced m u ps) (sym e) (record { inside = inside; held = held })

module _ (s : Contents) (next : ℕ) (p : Proc) (m : Names) (t : Contents) where
  pub answer_given : (a : Answer) (ps : Places) (fresh : ℕ) → fresh ≡ a.fresh → next + a.fresh < 2 ^ 64 → s.used + a.made ≤ s.budget
      → a.terms ≡ terms_at m t (listed ps) → Makes s next a.fresh a.made t → ArePlaced m t (listed ps)
      → IsGiven s next p (gives (a ∷ [])) m t (rows.Answer ps fresh)
  answer_given a ps fresh new few fits is made placed ts =
      subst (λ g. IsRow s next ts g m t (rows.Answer ps fresh)) (sym (gives_one p ts next s.used s.budget a ∙ has_room p next s.used s.budget a few fits))
      (ap (λ us. us ∷ []) is, (new, (made, placed)))

  pub refused_given : (a : Answer) (r : Row) → ((ts : Trees) → IsRow s next ts (with_room p next s.used s.budget a) m t r)
      → IsGiven s next p (gives (a ∷ [])) m t r
  refused_given a r h ts = subst (λ g. IsRow s next ts g m t r) (sym (gives_one p ts next s.used s.budget a)) (h ts)

  pub error_given : (e : Tree) (r : Row) → ((ts : Trees) → IsRow s next ts (thrown (error_ball e p)) m t r) → IsGiven s next p (error e) m t r
  error_given e r h ts = subst (λ g. IsRow s next ts g m t r) (sym (gives_error p ts next s.used s.budget e)) (h ts)

  pub none_given : t ≡ s → IsGiven s next p (gives []) m t rows.Fails
  none_given e ts = subst (λ g. IsRow s next ts g m t rows.Fails) (sym (gives_none p ts next s.used s.budget)) (refl, e)
