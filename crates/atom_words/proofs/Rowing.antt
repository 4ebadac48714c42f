-- The rows of buckets: what holds where no chain is being moved.
use Rattle.std.proofs.Common.{◌≡◌, ◌≢◌, ◌⊎◌, ℕ, zero, suc, ◌+◌, ◌-◌, ◌*◌, ◌^◌, ◌%◌, ◌<◌, ◌≤◌, List, [], ◌∷◌, get_or, refl, sym, ap, ◌∙◌, subst, inl, inr, ⊎_elim, arith, Some, None}
use Rattle.std.proofs.Math.Nat.{mod-lt, pow-le-pow_right}
use Rattle.std.proofs.lemmas.Grind.{pow_more}
use mathlib.Core.Logic.{dite}
use native.Mathlib.Decide.{ℕ_discrete, dec_le}
use Rattle.atom_words.specs.Layout.{first_of, closed_of, version_of, worn, last, phase_of, row_first}
use Rattle.atom_words.specs.Texts.{bucket, fnv, bytes_of}
use Rattle.atom_words.specs.Board.{Board, text_of}
use Rattle.atom_words.specs.Chains.{In, Chain, Linked}
use Rattle.atom_words.specs.Kinds.{RowOk}
use Rattle.atom_words.specs.Kept.{Fate, Rows, GrowOk, Kept}
use Rattle.atom_words.specs.declared.size.Size.{Size}
use Rattle.atom_words.specs.declared.view.Held.{Held}
use Rattle.atom_words.specs.declared.view.Growing.{Growing}
use Rattle.atom_words.specs.declared.view.View.{View}
use Rattle.atom_words.proofs.Slices.{in_back}

-- a text's bucket lies in the row
pub bucket_in : (row : ℕ) (t : List ℕ) → 256 ≤ 2 ^ row → (row_first row ≤ bucket row t) × (bucket row t < row_first row + 2 ^ row)
unfolding bucket
bucket_in row t wide = let m : ℕ = 2 ^ row in let h : ℕ = fnv 14695981039346656037 (bytes_of t) in let below : h % m < m = mod-lt h {m = m} (omega (arith, wide)) in (omega arith, omega (arith, below))

-- rows of two sizes have no head in common
smaller_apart : (r s h : ℕ) → 256 ≤ 2 ^ r → r < s → h < row_first r + 2 ^ r → row_first s ≤ h → ⊥
smaller_apart r s h wide less below above = let more : 2 ^ (r + 1) ≤ 2 ^ s = pow-le-pow_right {n = 2} (omega arith) {i = r + 1} {j = s} (omega (arith, less)) in let twice : 2 ^ (r + 1) ≡ 2 ^ r * 2 = pow_more 2 r in omega (arith, wide, below, above, more, twice)

pub rows_apart : (r s h : ℕ) → 256 ≤ 2 ^ r → 256 ≤ 2 ^ s → r ≢ s → row_first r ≤ h → h < row_first r + 2 ^ r → row_first s ≤ h → h < row_first s + 2 ^ s → ⊥
rows_apart r s h wide wide_too other above below above_too below_too = dite (dec_le (suc r) s)
    (λ (less : suc r ≤ s). smaller_apart r s h wide (omega (arith, less)) below above_too)
    (λ (ge : ¬ (suc r ≤ s)). smaller_apart s r h wide_too (omega (arith, ge, other)) below_too above)

module _ (z : Size) (epoch row : ℕ) (heads texts : List ℕ) (chain : ℕ → List ℕ) (g : Growing) (w : GrowOk z epoch row heads texts chain g) where
  -- where a head is open, or a cycle is at work, not all heads of the row in use are closed
  pub early_open : (h : ℕ) → h < z.heads → closed_of (get_or heads h 0) ≡ 0 → g.shut < 2 ^ row
  early_open h inside open_ = let t = w.closed h inside open_ in omega (arith, t.0, t.1)

  pub early_at_work : phase_of epoch ≢ 0 → g.shut < 2 ^ row
  early_at_work ne = dite (dec_le 1 g.shut) (λ (some_ : 1 ≤ g.shut). absurd (ne (w.idle (omega (arith, some_))))) (λ (none : ¬ (1 ≤ g.shut)). let wide = w.size.0 in omega (arith, none, wide))

  -- a cycle at work: all heads of the row in use are open
  pub none_shut : phase_of epoch ≢ 0 → 0 < g.shut → ⊥
  none_shut ne some_ = ne (w.idle some_)

  -- the epoch word is another
  pub grow_epoch : (epoch' : ℕ) → (0 < g.shut → phase_of epoch' ≡ 0) → GrowOk z epoch' row heads texts chain g
  grow_epoch epoch' idle = record {
    known = w.known;
    size = w.size;
    aim = w.aim;
    most = w.most;
    closed = w.closed;
    opened = w.opened;
    idle = idle;
    firm = w.firm;
    begun = w.begun;
    few = w.few;
    sound = w.sound;
    rest = w.rest;
    emptied = w.emptied;
    picked = w.picked;
    there = w.there;
  }

  -- the texts of linked slots stay
  pub grow_text : (texts' : List ℕ) → ((k : ℕ) → (a : Held) → g.picked ≡ Some a → a.slot ≡ k → text_of texts' k ≡ text_of texts k) → GrowOk z epoch row heads texts' chain g
  grow_text texts' same = record {
    known = w.known;
    size = w.size;
    aim = w.aim;
    most = w.most;
    closed = w.closed;
    opened = w.opened;
    idle = w.idle;
    firm = w.firm;
    begun = w.begun;
    few = w.few;
    sound = w.sound;
    rest = w.rest;
    emptied = w.emptied;
    picked = λ a e. let t = w.picked a e in (t.0, same a.slot a e refl ∙ t.1, t.2);
    there = w.there;
  }

  -- the chain that is moved stands in the table
  pub old_inside : g.moved < 2 ^ row → row_first row + g.moved < z.heads
  old_inside more = let size = w.size in omega (arith, more, size.0, size.1)

  -- the slot picked is linked
  pub picked_linked : (a : Held) → g.picked ≡ Some a → Linked z.heads chain a.slot
  picked_linked a e = let t = w.picked a e in (row_first row + g.moved, old_inside t.0, subst (In a.slot) (sym t.2.1) (in_back a.slot t.2.0 (a.slot ∷ []) (0, refl)))

  -- Where no chain is being moved, chains may change; and heads, but for closed ones while the row is replaced
  pub grow_early : g.shut < 2 ^ row → (heads' : List ℕ) (chain' : ℕ → List ℕ) → ((h : ℕ) → h < z.heads → closed_of (get_or heads' h 0) ≡ closed_of (get_or heads h 0))
      → (0 < g.shut → (h : ℕ) → h < z.heads → closed_of (get_or heads h 0) ≢ 0 → get_or heads' h 0 ≡ get_or heads h 0) → GrowOk z epoch row heads' texts chain' g
  grow_early early heads' chain' same stay = let none = w.rest (inl early) in let size = w.size in let aim = w.aim in record {
    known = w.known;
    size = w.size;
    aim = w.aim;
    most = w.most;
    closed = λ h inside e. w.closed h inside (sym (same h inside) ∙ e);
    opened = λ h above below. same h (omega (arith, below, size.0, size.1)) ∙ w.opened h above below;
    idle = w.idle;
    firm = λ h above below. let inside : h < z.heads = (let most = w.most in omega (arith, below, size.0, size.1)) in
        subst (λ (n : ℕ). version_of n < last) (sym (stay (omega (arith, above, below)) h inside (λ e. let t = w.closed h inside e in omega (arith, t.0, below)))) (w.firm h above below);
    begun = w.begun;
    few = w.few;
    sound = λ ne h above below. let some_ : 0 < g.shut = w.begun (omega (arith, above, below)) in sound_at ne some_ h above below;
    rest = w.rest;
    emptied = λ h above below. absurd (let zero_ = none.0 in omega (arith, above, below));
    picked = λ a e. absurd (let no : None ≡ Some a = sym none.2 ∙ e in cc);
    there = λ ne. absurd (ne none.1);
  }
    where
      sound_at : g.aim ≢ row → 0 < g.shut → (h : ℕ) → row_first g.aim ≤ h → h < row_first g.aim + g.sound → version_of (get_or heads' h 0) < worn
      sound_at ne some_ h above below = let low : version_of (get_or heads h 0) < worn = w.sound ne h above below in dite (ℕ_discrete (closed_of (get_or heads h 0)) 0)
          (λ (open_ : closed_of (get_or heads h 0) ≡ 0). dite (dec_le z.heads h)
          (λ (out : z.heads ≤ h). absurd (let aim = w.aim in let few = w.few in omega (arith, out, below, aim.0, aim.1, few)))
          (λ (in_ : ¬ (z.heads ≤ h)). let t = w.closed h (omega (arith, in_)) open_ in let few = w.few in absurd (rows_apart g.aim row h w.aim.0 w.size.0 ne above (omega (arith, below, few)) (omega (arith, t.0)) t.1)))
          (λ (closed : closed_of (get_or heads h 0) ≢ 0). let aim = w.aim in let few = w.few in subst (λ (n : ℕ). version_of n < worn) (sym (stay some_ h (omega (arith, below, aim.0, aim.1, few)) closed)) low)

-- and each chain is whole, each slot in the bucket of its text
module _ (z : Size) (row : ℕ) (g : Growing) (links heads texts : List ℕ) (chain : ℕ → List ℕ) (place : ℕ → ℕ) (f : Fate) (r : Rows z row g links heads texts chain place f) where
  pub chains_still : g.moving ≡ 0 → (h : ℕ) → h < z.heads → Chain links (first_of (get_or heads h 0)) (chain h)
  chains_still none h inside = r.chains h inside (λ l. l.0 none)

  pub stands_early : g.shut < 2 ^ row → (h k : ℕ) → h < z.heads → In k (chain h) → bucket row (text_of texts k) ≡ h
  stands_early early h k inside i = ⊎_elim (λ (e : bucket row (text_of texts k) ≡ h). e) (λ (t : (g.shut ≡ 2 ^ row) × (bucket g.aim (text_of texts k) ≡ h)). absurd (omega (arith, early, t.0))) (r.stands h k inside i)

-- in a sweep
module _ (z : Size) (b : Board) (vs : List View) (r : Kept z b vs) (two : phase_of b.epoch ≡ 2) where
  pub early_sweep : r.plan.grow.shut < 2 ^ b.row
  early_sweep = early_at_work z b.epoch b.row b.heads b.texts r.plan.chain r.plan.grow r.grow (λ none. omega (arith, none, two))

  pub chains_at_work : (h : ℕ) → h < z.heads → Chain b.links (first_of (get_or b.heads h 0)) (r.plan.chain h)
  chains_at_work h inside = chains_still z b.row r.plan.grow b.links b.heads b.texts r.plan.chain r.plan.place r.plan.fate r.rows (r.grow.rest (inl early_sweep)).1 h inside

  -- chains and heads may change, but for which heads are closed
  pub grow_at_work : (heads' : List ℕ) (chain' : ℕ → List ℕ) → ((h : ℕ) → h < z.heads → closed_of (get_or heads' h 0) ≡ closed_of (get_or b.heads h 0)) → GrowOk z b.epoch b.row heads' b.texts chain' r.plan.grow
  grow_at_work heads' chain' same = grow_early z b.epoch b.row b.heads b.texts r.plan.chain r.plan.grow r.grow early_sweep heads' chain' same
      (λ some_. absurd (none_shut z b.epoch b.row b.heads b.texts r.plan.chain r.plan.grow r.grow (λ none. omega (arith, none, two)) some_))
