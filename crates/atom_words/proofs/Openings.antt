-- A new table meets the rule; and seats are made, joined and split under it.
use Rattle.std.proofs.Common.{◌≡◌, ℕ, suc, ◌-◌, ◌*◌, ◌<◌, ◌≤◌, false, List, [], ◌∷◌, ◌++◌, get_or, replicate, refl, sym, ◌∙◌, ⊎_elim, arith, length-append}
use Rattle.std.proofs.lemmas.List.{get_or-replicate, get_or-append_right}
use mathlib.Core.Logic.{dite}
use native.Mathlib.Decide.{dec_le}
use lib.ListN.{get_or-append, length-replicate}
use Rattle.atomic_table.specs.Table.{State, opening}
use Rattle.atomic_table.specs.Table as table
use Rattle.atomic_table.proofs.Lists.{set_else}
use Rattle.atom_words.specs.Layout.{head_word}
use Rattle.atom_words.specs.Board.{laid}
use Rattle.atom_words.specs.Views.{first_view, newcomer, spent, with_keeper}
use Rattle.atom_words.specs.Rule.{Cut, makes, joins, splits, Opens, Rule}
use Rattle.atom_words.specs.Opening.{Allowed, opening_board}
use Rattle.atom_words.specs.declared.size.Size.{Size}
use Rattle.atom_words.specs.declared.view.View.{View}

-- what stands in a list of two runs
first_run : (a b m n i : ℕ) → i < m → get_or (replicate m a ++ replicate n b) i 0 ≡ a
first_run a b m n i h = let l = length-replicate {A = ℕ} m a in get_or-append (replicate m a) (replicate n b) 0 i (omega arith) ∙ get_or-replicate m i a 0 h

past_run : (a m i : ℕ) (ys : List ℕ) → m ≤ i → get_or (replicate m a ++ ys) i 0 ≡ get_or ys (i - m) 0
past_run a m i ys h = get_or-append_right (replicate m a) ys m i 0 (length-replicate m a) h

zeros : (n i : ℕ) → get_or {A = ℕ} (replicate n 0) i 0 ≡ 0
zeros n i = dite (dec_le n i) (λ (out : n ≤ i). Rattle.atom_words.proofs.Slices.or_beyond (replicate n 0) i 0 (let l = length-replicate {A = ℕ} n 0 in omega arith)) (λ (inside : ¬ (n ≤ i)). get_or-replicate n i 0 0 (omega arith))

pub opens : (z : Size) → Allowed z → Opens z (opening_board z) (first_view z ∷ [])
opens z ok = record {
  sized = record {
    small = omega (arith, ok);
    acks = length-replicate z.engines 0;
    atoms = simp (length-append {A = ℕ}) (simp (length-replicate {A = ℕ}) (omega (arith, ok)));
    links = length-replicate z.slots 0;
    heads = simp (length-append {A = ℕ}) (simp (length-replicate {A = ℕ}) (omega (arith, ok)));
    texts = length-replicate (32 * z.slots) 0;
  };
  wide = omega (arith, ok);
  idle = refl;
  row = refl;
  untold = λ i. zeros (32 * z.slots) i;
  unseen = λ e. zeros z.engines e;
  closed_off = λ k inside fixed low. past_run 0 z.fixed k (replicate (256 - z.fixed) 1 ++ replicate (z.slots - 256) 0) fixed ∙ first_run 1 0 (256 - z.fixed) (z.slots - 256) (k - z.fixed) (omega arith);
  free = λ k inside which. ⊎_elim
      (λ (t : k < z.fixed). let l = length-replicate {A = ℕ} z.fixed 0 in get_or-append (replicate z.fixed 0) (replicate (256 - z.fixed) 1 ++ replicate (z.slots - 256) 0) 0 k (omega arith) ∙ get_or-replicate z.fixed k 0 0 t)
      (λ (t : 256 ≤ k). past_run 0 z.fixed k (replicate (256 - z.fixed) 1 ++ replicate (z.slots - 256) 0) (omega (arith, ok))
      ∙ (past_run 1 (256 - z.fixed) (k - z.fixed) (replicate (z.slots - 256) 0) (omega (arith, ok)) ∙ zeros (z.slots - 256) (k - z.fixed - (256 - z.fixed))))
      which;
  buckets = λ h inside low. first_run (head_word 0 0 0) (head_word 0 1 z.start) 256 (z.heads - 256) h low;
  other_rows = λ h inside high. past_run (head_word 0 0 0) 256 h (replicate (z.heads - 256) (head_word 0 1 z.start)) high ∙ get_or-replicate (z.heads - 256) (h - 256) (head_word 0 1 z.start) 0 (omega arith);
  views = refl;
}

pub opens_rule : (z : Size) (ws : List ℕ) → Allowed z → ws ≡ laid z (opening_board z) → Rule z (opening ws [] (first_view z))
opens_rule z ws ok is = record { board = opening_board z; words = is; steps = 0; reached = opens z ok }

-- MAKE, JOIN AND SPLIT
pub make_at : (z : Size) (slots : ℕ) → table.Enters (Rule z) slots 0 (λ n w. w ≡ newcomer z)
make_at z slots s r _ _ = (newcomer z, record { board = r.board; words = r.words; steps = suc r.steps; reached = (r.board, s.views, r.reached, makes refl refl) }, refl)

pub split_at : (z : Size) (id : ℕ) (v left right : View) → v.gone ≡ false → Cut v left right → table.Splits (Rule z) id v left right
split_at z id v left right here cut s r at = record {
  board = r.board;
  words = r.words;
  steps = suc r.steps;
  reached = (r.board, s.views, r.reached, splits record { id = id; view = v; left = left; right = right; cut = cut; at = at; here = here; words = refl; views = refl });
}

pub join_at : (z : Size) (id : ℕ) (v : View) (other : ℕ) (w : View) → v.gone ≡ false → w.gone ≡ false → table.Joins (Rule z) id v other w (with_keeper v w) spent
join_at z id v other w here here_too s r at apart there = record {
  board = r.board;
  words = r.words;
  steps = suc r.steps;
  reached = (r.board, s.views, r.reached, joins record { id = id; view = v; other = other; keeper = w; at = at; here = here; apart = apart; there = sym (set_else s.views id other (with_keeper v w) apart) ∙ there; here_too = here_too; words = refl; views = refl });
}
