-- What a term says depends on the texts of its atoms alone.
use Rattle.std.proofs.Common.{◌≡◌, ℕ, ◌<◌, ◌≤◌, Bool, true, false, ◌==◌, ◌&&◌, ◌||◌, not, List, [], ◌∷◌, ◌++◌, refl, sym, ap, ◌∙◌, subst, inl, inr, arith, Option, Some, None, append-nil, eq-eqb, if◌then◌else◌}
use Rattle.std.specs.List.{All, list_any}
use Rattle.std.specs.Option.{is_some, IsSome}
use Rattle.std.proofs.lemmas.Bool.{cases_Bool}
use borrow.Author.Tests.{eqb-true}
use Rattle.std.proofs.lemmas.List.Elements.{All-nil, All-cons, All-head, All-tail}
use Rattle.pl_term.specs.Tree.{Chars, Tree}
use Rattle.atomic_table.specs.Seated.{TableId}
use Rattle.atom_words.specs.Seats.{seen}
use Rattle.atom_words.specs.declared.size.Size.{Size}
use Rattle.atom_words.specs.declared.view.Counted.{Counted}
use Rattle.atom_words.specs.declared.view.Held.{Held}
use Rattle.atom_words.specs.declared.view.View.{View}
use Rattle.atom_words.specs.declared.words.Words.{Words}
use Rattle.atom_words.specs.declared.words.AtomSeat.{AtomSeat}
use Rattle.term_store.specs.NumberedNames.{names_of}
use Rattle.term_store.specs.NameLaws.{names_are_told}
use Rattle.atom_api.specs.Fixed.{fixed}
use Rattle.atom_api.specs.Names.{Names}
use Rattle.atom_table.specs.Holding.{Sits}
use Rattle.atom_table.specs.Naming.{named, names, those}
use Rattle.atom_table.specs.Opening.{fixed_slots}
use Rattle.atom_table.specs.declared.seats.Keeper.{Keeper}
use Rattle.atom_table.proofs.Naming.{lawful, kept_named}
use Rattle.world_api.specs.Texts.{or_no_text, text_of}
use Rattle.counted_terms.specs.Keeping.{FetchedBy, KeeperAt, KeeperIn, RegisteredBy, UnregisteredBy, keeper_view, kept, or_else, tally, text_in, times, times_in}
use Rattle.counted_terms.specs.CountedTerms.{bit, has_counted, naming, said}
use Rattle.counted_terms.proofs.Holding.{else_some, some_of, text_counted}

-- THE FIXED ATOMS are among the first slots that each seat knows
those_none : (hs : List Held) → those [] hs ≡ []
those_none [] = refl
those_none (a ∷ hs) = those_none hs

pub fixed_named : (w : Words) (s : AtomSeat) → Sits w s → (seen s).fixed ≡ fixed_slots → (k : ℕ) (t : Chars) → fixed k ≡ Some t → named fixed_slots k ≡ Some t
fixed_named w s sits is k t e = let held : List Held = (seen s).held in let stand : names (seen s) k ≡ Some t = (lawful w s sits is).stand k t e in
    ap (λ (l : List Held). named l k) (sym (append-nil fixed_slots) ∙ ap (λ (l : List Held). fixed_slots ++ l) (sym (those_none held)))
    ∙ (ap (λ (m : Names). m k) (kept_named [] held) ∙ (ap (λ (o : Option Chars). if is_some o then named (fixed_slots ++ held) k else None) e ∙ (ap (λ (l : List Held). named (l ++ held) k) (sym is) ∙ stand)))

-- each member of a list that passes a test of its own
pub all_of : (P : ℕ → Type 0) (xs : List ℕ) → ((a : ℕ) → list_any (λ b. b == a) xs ≡ true → P a) → All P xs
all_of P [] f = All-nil P
all_of P (x ∷ xs) f = All-cons P x xs (f x (ap (λ (b : Bool). b || list_any (λ b. b == x) xs) (eq-eqb x x refl))) (all_of P xs (λ a h. f a (ap (λ (b : Bool). (x == a) || b) h ∙ or_true (x == a))))
  where
    or_true : (b : Bool) → (b || true) ≡ true
    or_true true = refl
    or_true false = refl

pub at_any : (P : ℕ → Type 0) (xs : List ℕ) (a : ℕ) → All P xs → list_any (λ b. b == a) xs ≡ true → P a
at_any P [] a all e = absurd (let no : false ≡ true = e in cc)
at_any P (x ∷ xs) a all e = elim (cases_Bool (x == a)) [
  | inl is ↦ subst P (eqb-is x a is) (All-head P x xs all)
  | inr ne ↦ at_any P xs a (All-tail P x xs all) (sym (ap (λ (b : Bool). b || list_any (λ b. b == a) xs) ne) ∙ e)
]
  where
    eqb-is : (x a : ℕ) → (x == a) ≡ true → x ≡ a
    eqb-is x a is = eqb-true x a is

-- an atom of a term is fixed, or counted by it
module _ (t : Tree) (P : ℕ → Type 0) (free : (k : ℕ) → 0 < naming k t → P k) (own : (k : ℕ) (u : Chars) → fixed k ≡ Some u → P k) where
  each_name : (k : ℕ) → list_any (λ b. b == k) (names_of t) ≡ true → P k
  each_name k e = by (fixed k) refl
    where
      by : (o : Option Chars) → fixed k ≡ o → P k
      by (Some u) f = own k u f
      by None f = free k (let one : naming k t ≡ 1 = (λ i. bit (e i && not (is_some (f i)))) in omega arith)

  pub all_names : All P (names_of t)
  all_names = all_of P (names_of t) each_name

-- maps that have the same texts
pub said_same : (m n : Names) (t : Tree) → ((k : ℕ) → 0 < naming k t → m k ≡ n k) → ((k : ℕ) (u : Chars) → fixed k ≡ Some u → m k ≡ n k) → said m t ≡ said n t
said_same m n t free own = names_are_told t (text_of m) (text_of n) (all_names t (λ k. text_of m k ≡ text_of n k) (λ k h. ap (or_no_text k) (free k h)) (λ k u f. ap (or_no_text k) (own k u f)))

-- a keeper keeps the fixed atoms, and those that it counts
pub kept_fixed : (k : View) (a : ℕ) (u : Chars) → k.fixed ≡ fixed_slots → named fixed_slots a ≡ Some u → kept k a ≡ Some u
kept_fixed k a u is e = else_some (named k.fixed a) (text_in k.counts a) u (ap (λ (l : List Held). named l a) is ∙ e)

pub kept_some : (k : View) (a : ℕ) → 0 < tally k a → IsSome (kept k a)
kept_some k a some_ = by (named k.fixed a) (text_in k.counts a) (text_some k.counts refl some_)
  where
    by : (o p : Option Chars) → IsSome p → IsSome (or_else o p)
    by None p s = s
    by (Some t) p s = refl

    text_some : (o : Option (List Counted)) → k.counts ≡ o → 0 < times_in o a → IsSome (text_in o a)
    text_some None e h = absurd (omega arith)
    text_some (Some cs) e h = subst (λ (o : Option Chars). IsSome o) (sym (text_counted cs a h)) refl

-- the keeper in its place knows the fixed atoms
pub keeper_fixed : (t : TableId) (z : Size) (o : Option Keeper) → KeeperAt t z o → (keeper_view o).fixed ≡ fixed_slots
keeper_fixed t z None k = absurd k
keeper_fixed t z (Some x) k = k.fixed

-- a term counts an atom once at most, and one that it names
pub naming_few : (k : ℕ) (t : Tree) → naming k t ≤ 1
naming_few k t = by (has_counted k (names_of t))
  where
    by : (b : Bool) → bit b ≤ 1
    by true = omega arith
    by false = omega arith

pub naming_any : (k : ℕ) (t : Tree) → 0 < naming k t → list_any (λ b. b == k) (names_of t) ≡ true
naming_any k t some_ = by (list_any (λ b. b == k) (names_of t)) (not (is_some (fixed k))) some_
  where
    by : (b c : Bool) → 0 < bit (b && c) → b ≡ true
    by true c h = refl
    by false c h = absurd (omega arith)

pub names_fixed : (w : Words) (s : AtomSeat) → Sits w s → (seen s).fixed ≡ fixed_slots → (k : ℕ) (u : Chars) → fixed k ≡ Some u → names (seen s) k ≡ Some u
names_fixed w s sits is k u e = (lawful w s sits is).stand k u e

-- WHAT TERMS SAY, as atoms are held and counted
module _ (w : Words) (s r : AtomSeat) (p q : Option Keeper) (atoms : List ℕ)
    (old : Sits w s × ((seen s).fixed ≡ fixed_slots)) (new : Sits w r × ((seen r).fixed ≡ fixed_slots)) (before : KeeperIn w p) (behind : KeeperIn w q) where
  own_old : (k : ℕ) (u : Chars) → fixed k ≡ Some u → kept (keeper_view p) k ≡ Some u
  own_old k u e = kept_fixed (keeper_view p) k u (keeper_fixed w.table.shared.table_id w.size p before) (fixed_named w s old.0 old.1 k u e)

  own_new : (k : ℕ) (u : Chars) → fixed k ≡ Some u → kept (keeper_view q) k ≡ Some u
  own_new k u e = kept_fixed (keeper_view q) k u (keeper_fixed w.table.shared.table_id w.size q behind) (fixed_named w s old.0 old.1 k u e)

  module _ (t : Tree) (is : (k : ℕ) → times k atoms ≡ naming k t) where
    listed : (k : ℕ) → 0 < naming k t → 0 < times k atoms
    listed k h = subst (λ (n : ℕ). 0 < n) (sym (is k)) h

    pub lent_says : FetchedBy atoms (keeper_view p) (seen s) (keeper_view q) (seen r) → said (names (seen r)) t ≡ said (kept (keeper_view p)) t
    lent_says f = said_same (names (seen r)) (kept (keeper_view p)) t (λ k h. f.named k (listed k h)) (λ k u e. names_fixed w r new.0 new.1 k u e ∙ sym (own_old k u e))

    pub lent_named : ((k : ℕ) → 0 < naming k t → 0 < tally (keeper_view p) k) → FetchedBy atoms (keeper_view p) (seen s) (keeper_view q) (seen r) → All (λ a. IsSome (names (seen r) a)) (names_of t)
    lent_named counted f = all_names t (λ a. IsSome (names (seen r) a)) (λ k h. subst (λ (o : Option Chars). IsSome o) (sym (f.named k (listed k h))) (kept_some (keeper_view p) k (counted k h)))
        (λ k u e. subst (λ (o : Option Chars). IsSome o) (sym (names_fixed w r new.0 new.1 k u e)) refl)

    pub stored_says : RegisteredBy atoms (keeper_view p) (seen s) (keeper_view q) (seen r) → said (kept (keeper_view q)) t ≡ said (names (seen s)) t
    stored_says f = said_same (kept (keeper_view q)) (names (seen s)) t (λ k h. f.named k (listed k h)) (λ k u e. own_new k u e ∙ sym (names_fixed w s old.0 old.1 k u e))

  pub stored_others : RegisteredBy atoms (keeper_view p) (seen s) (keeper_view q) (seen r) → (u : Tree) → ((k : ℕ) → 0 < naming k u → 0 < tally (keeper_view p) k) → said (kept (keeper_view q)) u ≡ said (kept (keeper_view p)) u
  stored_others f u counted = said_same (kept (keeper_view q)) (kept (keeper_view p)) u (λ k h. let x = some_of (kept (keeper_view p) k) (kept_some (keeper_view p) k (counted k h)) in f.holds k x.0 x.1 ∙ sym x.1) (λ k c e. own_new k c e ∙ sym (own_old k c e))

  pub forgotten_others : UnregisteredBy atoms (keeper_view p) (seen s) (keeper_view q) (seen r) → (u : Tree) → ((k : ℕ) → 0 < naming k u → 0 < tally (keeper_view q) k) → said (kept (keeper_view q)) u ≡ said (kept (keeper_view p)) u
  forgotten_others f u counted = said_same (kept (keeper_view q)) (kept (keeper_view p)) u (λ k h. f.keeps k (inl (counted k h))) (λ k c e. own_new k c e ∙ sym (own_old k c e))
