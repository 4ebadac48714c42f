-- The dying slot leaves its chain: the view from step to step.
use Rattle.std.proofs.Common.{◌≡◌, ℕ, ◌+◌, ◌<◌, false, true, List, [], ◌∷◌, ◌++◌, refl, sym, ap, ◌∙◌, subst, Some, Result, Ok, Err, MatchResult, option_map}
use Rattle.atom_words.specs.Layout.{first_of, version_of, last}
use Rattle.atom_words.specs.Texts.{bucket, padded}
use Rattle.atom_words.specs.Kinds.{unlinking, noting, moving_past, Dying, Unlinked, after}
use Rattle.atom_words.specs.Ties.{walk_word, walk_head}
use Rattle.atom_words.specs.Seats.{seen}
use Rattle.atom_words.specs.declared.view.Walk.{Walk}
use Rattle.atom_words.specs.declared.view.Sweeping.{Sweeping}
use Rattle.atom_words.specs.declared.view.View.{View}
use Rattle.atom_words.specs.declared.words.AtomSeat.{AtomSeat}
use Rattle.atom_words.specs.declared.kind.Kind.{Kind}
use Rattle.atom_words.specs.declared.kind.Kind.TheVariants.{Behind, UnlinkAt, UnlinkHead, Note, Bump, Past}
use Rattle.atom_words.proofs.Slices.{some_same}
use Rattle.bucket_rows.specs.SweepKinds.{SweepKind, starts}
use Rattle.bucket_rows.specs.Treads.{Treads, Caught, Behinds, OutOf}
use Rattle.bucket_rows.proofs.Checks.{after_append}
use Rattle.bucket_rows.proofs.Treading.{treads_behind, at_first}

-- steps after steps
pub then_steps : (v u w : View) (ks js : List Kind) → u ≡ after v ks → w ≡ after u js → w ≡ after v (ks ++ js)
then_steps v u w ks js e f = f ∙ (ap (λ (y : View). after y js) e ∙ sym (after_append v ks js))

-- the seat keeps the word and the head of its walk at run time
pub word_of : (s : AtomSeat) (k x n before p : ℕ) → Treads k x n before p (seen s) → x ≡ s.word
word_of s k x n before p t = sym t.word ∙ (ap (walk_word s.word) (sym t.at) ∙ s.walks.1)

pub head_is : (s : AtomSeat) (k x n before p : ℕ) (t : Treads k x n before p (seen s)) → t.walk.head ≡ s.head
head_is s k x n before p t = ap (walk_head s.head) (sym t.at) ∙ s.walks.0

-- the dying slot's link word was read
pub behinds_of : (k x before link : ℕ) (v u : View) → Caught k x before v → u ≡ after v (Behind link ∷ []) → Behinds k x before link u
behinds_of k x before link v u c is = let b = treads_behind k x c.0 before (k + 1) link v c.1 in subst (Behinds k x before link) (sym is) (
  c.0,
  b.0,
  ap (λ (s : Sweeping). s.dying) b.1 ∙ c.2,
  ap (λ (s : Sweeping). s.head) b.1 ∙ (c.3 ∙ sym (ap (λ (w : Walk). w.head) b.2)),
  ap (λ (s : Sweeping). s.behind) b.1,
  c.4,
)

pub behinds_word : (s : AtomSeat) (k x before link : ℕ) → Behinds k x before link (seen s) → Behinds k s.word before link (seen s)
behinds_word s k x before link b = subst (λ (y : ℕ). Behinds k y before link (seen s)) (word_of s k x b.0 before (k + 1) b.1) b

-- the walk was made again
pub behinds_again : (k x y before n after_ link : ℕ) (v u : View) → Behinds k x before link v → Treads k y n after_ (k + 1) u → u.sweep ≡ v.sweep → u.growing ≡ v.growing → version_of y < last → Behinds k y after_ link u
behinds_again k x y before n after_ link v u b t same rows early = let is : t.sweep ≡ b.1.sweep = some_same t.sweep b.1.sweep u.sweep t.sweeps.0 (same ∙ b.1.sweeps.0) in (
  n,
  t,
  ap (λ (s : Sweeping). s.dying) is ∙ b.2,
  ap (λ (s : Sweeping). s.head) is ∙ (b.3 ∙ (sym b.1.head ∙ ((λ i. bucket (sym rows i).row (padded (sym is i).text)) ∙ t.head))),
  ap (λ (s : Sweeping). s.behind) is ∙ b.4,
  early,
)

-- the slot may be taken out as the first
pub first_dying : (k x link : ℕ) (v : View) → Behinds k x 0 link v → (y : Sweeping) × (w : Walk) × Dying v y × (y.behind ≡ Some link) × (v.walk ≡ Some w) × (first_of w.word ≡ y.cursor + 1) × (version_of w.word < last)
first_dying k x link v b = let t = b.1 in (
  t.sweep,
  t.walk,
  (t.sweeps, b.2 ∙ ap (λ (n : ℕ). n + 1) (sym t.cursor), t.linked),
  b.4,
  t.at,
  ap first_of t.word ∙ (sym (at_first k x b.0 (k + 1) v t) ∙ ap (λ (n : ℕ). n + 1) (sym t.cursor)),
  subst (λ (n : ℕ). version_of n < last) (sym t.word) b.5,
)

pub out_first : (k x before link : ℕ) (v u : View) → Behinds k x before link v → u ≡ after v (UnlinkHead ∷ []) → OutOf k u
out_first k x before link v u b is = let t = b.1 in (unlinking true t.sweep, ((ap (λ (y : View). y.sweep) is ∙ ap (option_map (unlinking true)) t.sweeps.0, t.sweeps.1), b.2 ∙ ap (λ (n : ℕ). n + 1) (sym t.cursor), refl), refl, t.cursor)

-- or after another
pub unlinked_after : (k x before link q : ℕ) (v u : View) → (b : Behinds k x before link v) → u ≡ after v (UnlinkAt q ∷ []) → Unlinked u (unlinking false b.1.sweep)
unlinked_after k x before link q v u b is = let t = b.1 in ((ap (λ (y : View). y.sweep) is ∙ ap (option_map (unlinking false)) t.sweeps.0, t.sweeps.1), b.2 ∙ ap (λ (n : ℕ). n + 1) (sym t.cursor), refl)

pub unlinked_noted : (n : ℕ) (y : Sweeping) (u w : View) → Unlinked u y → w ≡ after u (Note n ∷ []) → Unlinked w (noting n y)
unlinked_noted n y u w q is = ((ap (λ (z : View). z.sweep) is ∙ ap (option_map (noting n)) q.0.0, q.0.1), q.1, q.2)

-- the head's version moves
pub bumped_by : (u w : View) (r : Result (Unit {0}) ℕ) → MatchResult r (λ _. w ≡ after u (Bump ∷ [])) (λ x. w ≡ after u (Past x ∷ [])) → (k : Kind) × (w ≡ after u (k ∷ [])) × SweepKind k × ((y : Sweeping) → Unlinked u y → Unlinked w (moving_past y)) × (starts (k ∷ []) ≡ 0)
bumped_by u w (Ok _) e = (Bump, e, tt, (λ y q. ((ap (λ (z : View). z.sweep) e ∙ ap (option_map moving_past) q.0.0, q.0.1), q.1, q.2)), refl)
bumped_by u w (Err x) e = (Past x, e, tt, (λ y q. ((ap (λ (z : View). z.sweep) e ∙ ap (option_map moving_past) q.0.0, q.0.1), q.1, q.2)), refl)
