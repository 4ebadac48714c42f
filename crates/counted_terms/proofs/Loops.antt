-- Steps on one atom after another.
use Rattle.std.proofs.Common.{◌≡◌, ◌⊎◌, ℕ, ◌+◌, ◌<◌, ◌≤◌, List, [], ◌∷◌, ◌++◌, length, get_or, take, refl, sym, ap, ◌∙◌, subst, inl, inr, ⊎_elim, arith, Option}
use Rattle.std.specs.Option.{IsSome}
use Rattle.std.proofs.lemmas.List.{take_more}
use mathlib.Core.Logic.{dite}
use native.Mathlib.Decide.{dec_le}
use Rattle.pl_term.specs.Tree.{Chars}
use Rattle.atom_words.specs.Kinds.{Sitting}
use Rattle.atom_words.specs.declared.view.View.{View}
use Rattle.atom_table.specs.Naming.{named, names}
use Rattle.atom_table.specs.Opening.{fixed_slots}
use Rattle.atom_table.proofs.Settling.{sitting_by}
use Rattle.counted_terms.specs.Keeping.{Carries, Fetched, FetchedBy, HoldsOn, Registered, RegisteredBy, Stays, Unregistered, UnregisteredBy, kept, tally, times}
use Rattle.counted_terms.proofs.Times.{times_more}

-- STAYING
pub stays_refl : (v : View) → Stays v v
stays_refl v = record { size = refl; own = refl; fixed = refl; cycle = refl; sweep = refl; undealt = refl; risen = refl; refusals = refl; asked = refl }

pub stays_trans : (u v w : View) → Stays u v → Stays v w → Stays u w
stays_trans u v w a b = record { size = b.size ∙ a.size; own = b.own ∙ a.own; fixed = b.fixed ∙ a.fixed; cycle = b.cycle ∙ a.cycle; sweep = b.sweep ∙ a.sweep; undealt = b.undealt ∙ a.undealt; risen = b.risen ∙ a.risen; refusals = b.refusals ∙ a.refusals; asked = b.asked ∙ a.asked }

stays_back : (v w : View) → Stays v w → Stays w v
stays_back v w a = record { size = sym a.size; own = sym a.own; fixed = sym a.fixed; cycle = sym a.cycle; sweep = sym a.sweep; undealt = sym a.undealt; risen = sym a.risen; refusals = sym a.refusals; asked = sym a.asked }

pub sitting_stays : (v w : View) → Stays v w → Sitting v → Sitting w
sitting_stays v w s = sitting_by v w s.cycle s.undealt

holds_trans : (l m n : ℕ → Option Chars) → HoldsOn l m → HoldsOn m n → HoldsOn l n
holds_trans l m n f g a t e = g a t (f a t e)

-- WHERE A NUMBER OF A LIST OF TWO PARTS STANDS
in_parts : (k : ℕ) (xs ys : List ℕ) → 0 < times k (xs ++ ys) → (0 < times k ys) ⊎ ((times k ys ≡ 0) × (0 < times k xs))
in_parts k xs ys some_ = let sum = times_more k xs ys in dite (dec_le 1 (times k ys)) (λ (h : 1 ≤ times k ys). inl (omega arith)) (λ (h : ¬ (1 ≤ times k ys)). inr (omega arith, omega arith))

-- ONE AFTER THE OTHER
pub fetched_none : (v : View) → Fetched [] v v
fetched_none v = record { named = λ k h. absurd (omega arith); others = λ k _. refl; holds = λ a t e. e; keeps = refl; counts = λ k. refl; stays = stays_refl v }

pub fetched_then : (xs ys : List ℕ) (u v w : View) → Fetched xs u v → Fetched ys v w → Fetched (xs ++ ys) u w
fetched_then xs ys u v w x y = record {
  named = λ k h. ⊎_elim
      (λ (t : 0 < times k ys). y.named k t ∙ ap (λ (m : ℕ → Option Chars). m k) x.keeps)
      (λ (t : (times k ys ≡ 0) × (0 < times k xs)). y.others k t.0 ∙ x.named k t.1)
      (in_parts k xs ys h);
  others = λ k none. let sum = times_more k xs ys in y.others k (omega arith) ∙ x.others k (omega arith);
  holds = holds_trans (names u) (names v) (names w) x.holds y.holds;
  keeps = y.keeps ∙ x.keeps;
  counts = λ k. y.counts k ∙ x.counts k;
  stays = stays_trans u v w x.stays y.stays;
}

pub registered_none : (v : View) → Registered [] v v
registered_none v = record { named = λ k h. absurd (omega arith); others = λ k _. refl; holds = λ a t e. e; held = refl; counts = λ k. omega arith; stays = stays_refl v }

pub registered_then : (xs ys : List ℕ) (u v w : View) → Registered xs u v → Registered ys v w → Registered (xs ++ ys) u w
registered_then xs ys u v w x y = record {
  named = λ k h. ⊎_elim
      (λ (t : 0 < times k ys). y.named k t ∙ ap (λ (m : ℕ → Option Chars). m k) x.held)
      (λ (t : (times k ys ≡ 0) × (0 < times k xs)). y.others k t.0 ∙ x.named k t.1)
      (in_parts k xs ys h);
  others = λ k none. let sum = times_more k xs ys in y.others k (omega arith) ∙ x.others k (omega arith);
  holds = holds_trans (kept u) (kept v) (kept w) x.holds y.holds;
  held = y.held ∙ x.held;
  counts = λ k. let sum = times_more k xs ys in let a = x.counts k in let b = y.counts k in omega arith;
  stays = stays_trans u v w x.stays y.stays;
}

pub unregistered_none : (v : View) → Unregistered [] v v
unregistered_none v = record { keeps = λ k _. refl; held = refl; counts = λ k. omega arith; stays = stays_refl v }

pub unregistered_then : (xs ys : List ℕ) (u v w : View) → Unregistered xs u v → Unregistered ys v w → Unregistered (xs ++ ys) u w
unregistered_then xs ys u v w x y = record {
  keeps = λ k still. let b = y.counts k in
      y.keeps k still
      ∙ x.keeps k (⊎_elim (λ (h : 0 < tally w k). inl (omega arith)) (λ (h : IsSome (named fixed_slots k)). inr h) still);
  held = y.held ∙ x.held;
  counts = λ k. let sum = times_more k xs ys in let a = x.counts k in let b = y.counts k in omega arith;
  stays = stays_trans u v w x.stays y.stays;
}

-- one more of a list
pub next_of : (xs : List ℕ) (i d a : ℕ) → i < length xs → a ≡ get_or xs i d → take (i + 1) xs ≡ take i xs ++ a ∷ []
next_of xs i d a low is = take_more xs i d low ∙ ap (λ (x : ℕ). take i xs ++ x ∷ []) (sym is)

-- BETWEEN A JOIN AND A PART
module _ (atoms : List ℕ) (k v u x l w : View) (joined : Carries k v u) (parted : Carries l w x) where
  at : (m n : ℕ → Option Chars) (a : ℕ) → m ≡ n → m a ≡ n a
  at m n a e = ap (λ (f : ℕ → Option Chars). f a) e

  same : (a : ℕ) → tally l a ≡ tally x a
  same a = ap (λ (f : ℕ → ℕ). f a) (sym parted.counts)

  was : (a : ℕ) → tally u a ≡ tally k a
  was a = ap (λ (f : ℕ → ℕ). f a) joined.counts

  stayed : Stays u x → Stays v w
  stayed s = stays_trans v u w joined.stays (stays_trans u x w s (stays_back w x parted.stays))

  pub fetched_parted : Fetched atoms u x → FetchedBy atoms k v l w
  fetched_parted f = record {
    named = λ a h. at (names w) (names x) a (sym parted.held) ∙ (f.named a h ∙ at (kept u) (kept k) a joined.keeps);
    others = λ a none. at (names w) (names x) a (sym parted.held) ∙ (f.others a none ∙ at (names u) (names v) a joined.held);
    holds = λ a t e. at (names w) (names x) a (sym parted.held) ∙ f.holds a t (at (names u) (names v) a joined.held ∙ e);
    keeps = sym parted.keeps ∙ (f.keeps ∙ joined.keeps);
    counts = λ a. same a ∙ (f.counts a ∙ was a);
    stays = stayed f.stays;
  }

  pub registered_parted : Registered atoms u x → RegisteredBy atoms k v l w
  registered_parted f = record {
    named = λ a h. at (kept l) (kept x) a (sym parted.keeps) ∙ (f.named a h ∙ at (names u) (names v) a joined.held);
    others = λ a none. at (kept l) (kept x) a (sym parted.keeps) ∙ (f.others a none ∙ at (kept u) (kept k) a joined.keeps);
    holds = λ a t e. at (kept l) (kept x) a (sym parted.keeps) ∙ f.holds a t (at (kept u) (kept k) a joined.keeps ∙ e);
    held = sym parted.held ∙ (f.held ∙ joined.held);
    counts = λ a. let y = same a in let z = was a in let n = f.counts a in omega arith;
    stays = stayed f.stays;
  }

  pub unregistered_parted : Unregistered atoms u x → UnregisteredBy atoms k v l w
  unregistered_parted f = record {
    keeps = λ a still. at (kept l) (kept x) a (sym parted.keeps)
        ∙ (f.keeps a (⊎_elim (λ (h : 0 < tally l a). inl (subst (λ (n : ℕ). 0 < n) (same a) h)) (λ (h : IsSome (named fixed_slots a)). inr h) still) ∙ at (kept u) (kept k) a joined.keeps);
    held = sym parted.held ∙ (f.held ∙ joined.held);
    counts = λ a. let y = same a in let z = was a in let n = f.counts a in omega arith;
    stays = stayed f.stays;
  }
