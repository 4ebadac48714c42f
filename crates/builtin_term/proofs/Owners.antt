-- Owners of variables.
use Rattle.std.proofs.Common.{◌≡◌, ◌⊎◌, inl, inr, ℕ, ◌+◌, ◌<◌, ◌≤◌, Bool, true, false, ◌||◌, ◌==◌, List, [], ◌∷◌, ◌++◌, length, get_or, take, drop, Option, Some, None, refl, sym, ap, subst, ◌∙◌}
use Rattle.std.specs.List.{All, Contains}
use Rattle.std.proofs.lemmas.Bool.{false≢true}
use Rattle.std.proofs.lemmas.Bool.Decides.{Decides-eqb}
use Rattle.std.proofs.lemmas.List.{take-append-drop, take_all, take_more}
use Rattle.std.proofs.lemmas.List.Elements.{All-cons, All-nil, All-contains, All-more, All-weaker, Contains-append_left, Contains-append_right, Contains-get_or, Contains-push}
use Rattle.pl_term.specs.Tree.{var}
use Rattle.pl_term.specs.Variables.{is_in}
use Rattle.pl_model.proofs.UnifyReplace.{eqb_same}
use Rattle.term_store.specs.declared.words.Word.TheVariants.{Var}
use Rattle.term_store.specs.Contents.{Contents, term_at}
use Rattle.builtin_term.specs.declared.met_variables.Met.{Met}
use Rattle.builtin_term.specs.Renaming.{IsRenaming, Owns}
use Rattle.builtin_term.specs.TermWalks.{numbers}

split : (a b : Bool) → (a || b) ≡ true → (a ≡ true) ⊎ (b ≡ true)
split true b e = inl refl
split false b e = inr e

second : (a b : Bool) → b ≡ true → (a || b) ≡ true
second true b q = refl
second false b q = q

-- What is read where no variable was met.
abbrev pub no_met : Met
no_met = record { number = 0; place = record { word = Var 0 } }

-- A variable that owns what it became.
pub record IsOwned (s : Contents) (owner : ℕ → Option ℕ) (e : Met) : Type 0 where
  pub number : ℕ
  pub stands : term_at s e.place ≡ var number
  pub owns : owner number ≡ Some e.number

-- Who owns a number, of those that were met.
pub record IsOwner (s : Contents) (es : List Met) (y x : ℕ) : Type 0 where
  pub met : Met
  pub among : Contains es met
  pub named : met.number ≡ x
  pub stands : term_at s met.place ≡ var y

abbrev pub AreOwners : Contents → List Met → (ℕ → Option ℕ) → Type 0
AreOwners s es owner = (y x : ℕ) → owner y ≡ Some x → IsOwner s es y x

pub owned_none : (s : Contents) (owner : ℕ → Option ℕ) (es : List Met) → All (IsOwned s owner) (take 0 es)
owned_none s owner es = All-nil (IsOwned s owner)

pub owners_none : (s : Contents) (owner : ℕ → Option ℕ) (es : List Met) → ((y : ℕ) → owner y ≡ None) → AreOwners s es owner
owners_none s owner es none y x e = absurd (differ (sym (none y) ∙ e))
  where
    differ : (let l : Option ℕ = None in let r : Option ℕ = Some x in l ≡ r) → ⊥
    differ q = absurd (cc)

pub owned_more : (s : Contents) (old new : ℕ → Option ℕ) (es : List Met) (i : ℕ) (e : Met) → i < length es → e ≡ get_or es i e
    → Owns true (term_at s e.place) e.number old new → All (IsOwned s old) (take i es) → All (IsOwned s new) (take (i + 1) es)
owned_more s old new es i e lt at o before =
    All-more (IsOwned s new) es i e lt
    (All-weaker (IsOwned s old) (IsOwned s new) (λ d w. record { number = w.number; stands = w.stands; owns = o.1.1.stays w.number d.number w.owns }) (take i es) before)
    (subst (IsOwned s new) at (record { number = o.0; stands = o.1.0; owns = o.1.1.has }))

contains_more : (es : List Met) (i : ℕ) (d e : Met) → i < length es → Contains (take i es) e → Contains (take (i + 1) es) e
contains_more es i d e lt c =
    subst (λ l. Contains l e) (sym (take_more es i d lt)) (Contains-append_left (take i es) (get_or es i d ∷ []) e c)

contains_next : (es : List Met) (i : ℕ) (e : Met) → i < length es → e ≡ get_or es i e → Contains (take (i + 1) es) e
contains_next es i e lt at =
    subst (λ l. Contains l e) (sym (take_more es i e lt))
    (subst (λ d. Contains (take i es ++ d ∷ []) e) at (Contains-push (take i es) e))

pub owners_more : (s : Contents) (old new : ℕ → Option ℕ) (es : List Met) (i : ℕ) (e : Met) → i < length es → e ≡ get_or es i e
    → Owns true (term_at s e.place) e.number old new → AreOwners s (take i es) old → AreOwners s (take (i + 1) es) new
owners_more s old new es i e lt at o before y x is = go (o.1.1.before y x is)
  where
    go : (old y ≡ Some x) ⊎ ((y ≡ o.0) × (x ≡ e.number)) → IsOwner s (take (i + 1) es) y x
    go (inl q) =
        let w = before y x q in
        record { met = w.met; among = contains_more es i e w.met lt w.among; named = w.named; stands = w.stands }
    go (inr q) =
        record { met = e; among = contains_next es i e lt at; named = sym q.1; stands = o.1.0 ∙ ap var (sym q.0) }

-- Members by their numbers

member : (x : ℕ) (es : List Met) → is_in x (numbers es) ≡ true → (e : Met) × (Contains es e × (e.number ≡ x))
member x [] q = absurd (false≢true q)
member x (e ∷ es) q = go (split (x == e.number) (is_in x (numbers es)) q) (member x es)
  where
    go : ((x == e.number) ≡ true) ⊎ (is_in x (numbers es) ≡ true) → (is_in x (numbers es) ≡ true → (d : Met) × (Contains es d × (d.number ≡ x)))
        → (d : Met) × (Contains (e ∷ es) d × (d.number ≡ x))
    go (inl p) ih = (e, (Contains-append_left (e ∷ []) es e (Contains-push [] e), sym ((Decides-eqb x e.number).0 p)))
    go (inr p) ih = let m = ih p in (m.0, (Contains-append_right (e ∷ []) es m.0 m.1.0, m.1.1))

all_in : (es : List Met) → All (λ d. is_in d.number (numbers es) ≡ true) es
all_in [] = All-nil (λ d. is_in d.number [] ≡ true)
all_in (e ∷ es) =
    let P : Met → Type 0 = λ d. is_in d.number (numbers (e ∷ es)) ≡ true in
    All-cons P e es (ap (λ b. b || is_in e.number (numbers es)) (eqb_same e.number))
    (All-weaker (λ d. is_in d.number (numbers es) ≡ true) P (λ d q. second (d.number == e.number) (is_in d.number (numbers es)) q) es (all_in es))

is_among : (es : List Met) (e : Met) → Contains es e → is_in e.number (numbers es) ≡ true
is_among es e c = All-contains (λ d. is_in d.number (numbers es) ≡ true) es e (all_in es) c

-- All are different.
pub renaming : (s : Contents) (es : List Met) (owner : ℕ → Option ℕ) → All (IsOwned s owner) es → IsRenaming true s es
renaming s es owner owned f places =
    record {
      owner = owner;
      owns =
          λ x q. let m = member x es q in
          let o = All-contains (IsOwned s owner) es m.0 owned m.1.0 in
          (o.number, (ap f (sym m.1.1) ∙ sym (All-contains (λ e. term_at s e.place ≡ f e.number) es m.0 places m.1.0) ∙ o.stands, o.owns ∙ ap Some m.1.1));
    }

-- One is not.
pub no_renaming : (s : Contents) (es : List Met) (i : ℕ) (e : Met) (old new : ℕ → Option ℕ) → i < length es → e ≡ get_or es i e
    → Owns false (term_at s e.place) e.number old new → AreOwners s (take i es) old → IsRenaming false s es
no_renaming s es i e old new lt at o owners f places =
    let here : Contains es e = subst (λ d. Contains es d) (sym at) (Contains-get_or es i e lt) in
    record {
      variable = e.number;
      among = is_among es e here;
      shared =
          λ y q. let z = o y (All-contains (λ d. term_at s d.place ≡ f d.number) es e places here ∙ q) in
          let w = owners y z.0 z.1.0 in
          let there : Contains es w.met =
          subst (λ l. Contains l w.met) (take-append-drop i es) (Contains-append_left (take i es) (drop i es) w.met w.among) in (
            z.0,
            (
              subst (λ n. is_in n (numbers es) ≡ true) w.named (is_among es w.met there),
              (z.1.1, ap f (sym w.named) ∙ sym (All-contains (λ d. term_at s d.place ≡ f d.number) es w.met places there) ∙ w.stands),
            ),
          );
    }

pub renaming_all : (s : Contents) (es : List Met) (n : ℕ) (owner : ℕ → Option ℕ) → length es ≤ n → All (IsOwned s owner) (take n es) → IsRenaming true s es
renaming_all s es n owner le owned = renaming s es owner (subst (All (IsOwned s owner)) (take_all n es le) owned)
