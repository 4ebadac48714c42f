-- What the steps of a sweep leave of the view.
use Rattle.std.proofs.Common.{◌≡◌, ℕ, ◌+◌, true, false, List, [], ◌∷◌, ◌++◌, refl, sym, ap, ◌∙◌, subst, Option, Some, None, option_map}
use Rattle.atom_words.specs.Kinds.{looking, spelling, condemning, passing, with_behind, unlinking, noting, moving_past, freeing, head_of, view_after, after}
use Rattle.atom_words.specs.declared.view.Sweeping.{Sweeping}
use Rattle.atom_words.specs.declared.view.View.{View}
use Rattle.atom_words.specs.declared.kind.Kind.{Kind}
use Rattle.atom_words.specs.declared.kind.Kind.TheVariants.{Load, Start, Next, Look, Spell, Condemn, PassOver, Behind, UnlinkAt, UnlinkHead, Note, Bump, Past, Free}
use Rattle.bucket_rows.specs.declared.slots.Verdict.{Verdict}
use Rattle.bucket_rows.specs.Treads.{spells, nexts}
use Rattle.bucket_rows.specs.Sweeps.{SweptBy, Run}
use Rattle.bucket_rows.specs.SweepKinds.{SweepKind, SweepKinds, Untouched}

pub kinds_append : (ks js : List Kind) → SweepKinds ks → SweepKinds js → SweepKinds (ks ++ js)
kinds_append [] js a b = b
kinds_append (k ∷ ks) js a b = (a.0, kinds_append ks js a.1 b)

pub kinds_spells : (ws : List ℕ) → SweepKinds (spells ws)
kinds_spells [] = tt
kinds_spells (x ∷ ws) = (tt, kinds_spells ws)

pub kinds_nexts : (xs : List ℕ) → SweepKinds (nexts xs)
kinds_nexts [] = tt
kinds_nexts (x ∷ xs) = (tt, kinds_nexts xs)

kept_on : (f : Sweeping → Sweeping) (g : Sweeping → ℕ) → ((y : Sweeping) → g (f y) ≡ g y) → (o : Option Sweeping) → option_map g (option_map f o) ≡ option_map g o
kept_on f g same None = refl
kept_on f g same (Some y) = ap Some (same y)

untouched_kind : (v : View) (k : Kind) → SweepKind k → Untouched v (view_after v k)
untouched_kind v (Load i x) t = record { gone = refl; size = refl; own = refl; held = refl; fixed = refl; counts = refl; cycle = refl; growing = refl; word = refl; checked = refl }
untouched_kind v (Start h x) t = record { gone = refl; size = refl; own = refl; held = refl; fixed = refl; counts = refl; cycle = refl; growing = refl; word = refl; checked = refl }
untouched_kind v (Next x) t = record { gone = refl; size = refl; own = refl; held = refl; fixed = refl; counts = refl; cycle = refl; growing = refl; word = refl; checked = refl }
untouched_kind v (Look x) t = record { gone = refl; size = refl; own = refl; held = refl; fixed = refl; counts = refl; cycle = refl; growing = refl; word = kept_on (looking x) (λ y. y.word) (λ _. refl) v.sweep; checked = kept_on (looking x) (λ y. y.checked) (λ _. refl) v.sweep }
untouched_kind v (Spell x) t = record { gone = refl; size = refl; own = refl; held = refl; fixed = refl; counts = refl; cycle = refl; growing = refl; word = kept_on (spelling x) (λ y. y.word) (λ _. refl) v.sweep; checked = kept_on (spelling x) (λ y. y.checked) (λ _. refl) v.sweep }
untouched_kind v Condemn t = record { gone = refl; size = refl; own = refl; held = refl; fixed = refl; counts = refl; cycle = refl; growing = refl; word = kept_on (condemning (head_of v.walk)) (λ y. y.word) (λ _. refl) v.sweep; checked = kept_on (condemning (head_of v.walk)) (λ y. y.checked) (λ _. refl) v.sweep }
untouched_kind v (PassOver x) t = record { gone = refl; size = refl; own = refl; held = refl; fixed = refl; counts = refl; cycle = refl; growing = refl; word = kept_on passing (λ y. y.word) (λ _. refl) v.sweep; checked = kept_on passing (λ y. y.checked) (λ _. refl) v.sweep }
untouched_kind v (Behind x) t = record { gone = refl; size = refl; own = refl; held = refl; fixed = refl; counts = refl; cycle = refl; growing = refl; word = kept_on (with_behind x) (λ y. y.word) (λ _. refl) v.sweep; checked = kept_on (with_behind x) (λ y. y.checked) (λ _. refl) v.sweep }
untouched_kind v (UnlinkAt q) t = record { gone = refl; size = refl; own = refl; held = refl; fixed = refl; counts = refl; cycle = refl; growing = refl; word = kept_on (unlinking false) (λ y. y.word) (λ _. refl) v.sweep; checked = kept_on (unlinking false) (λ y. y.checked) (λ _. refl) v.sweep }
untouched_kind v UnlinkHead t = record { gone = refl; size = refl; own = refl; held = refl; fixed = refl; counts = refl; cycle = refl; growing = refl; word = kept_on (unlinking true) (λ y. y.word) (λ _. refl) v.sweep; checked = kept_on (unlinking true) (λ y. y.checked) (λ _. refl) v.sweep }
untouched_kind v (Note x) t = record { gone = refl; size = refl; own = refl; held = refl; fixed = refl; counts = refl; cycle = refl; growing = refl; word = kept_on (noting x) (λ y. y.word) (λ _. refl) v.sweep; checked = kept_on (noting x) (λ y. y.checked) (λ _. refl) v.sweep }
untouched_kind v Bump t = record { gone = refl; size = refl; own = refl; held = refl; fixed = refl; counts = refl; cycle = refl; growing = refl; word = kept_on moving_past (λ y. y.word) (λ _. refl) v.sweep; checked = kept_on moving_past (λ y. y.checked) (λ _. refl) v.sweep }
untouched_kind v (Past x) t = record { gone = refl; size = refl; own = refl; held = refl; fixed = refl; counts = refl; cycle = refl; growing = refl; word = kept_on moving_past (λ y. y.word) (λ _. refl) v.sweep; checked = kept_on moving_past (λ y. y.checked) (λ _. refl) v.sweep }
untouched_kind v Free t = record { gone = refl; size = refl; own = refl; held = refl; fixed = refl; counts = refl; cycle = refl; growing = refl; word = kept_on freeing (λ y. y.word) (λ _. refl) v.sweep; checked = kept_on freeing (λ y. y.checked) (λ _. refl) v.sweep }
untouched_kind v _ t = absurd t

pub untouched_refl : (v : View) → Untouched v v
untouched_refl v = record { gone = refl; size = refl; own = refl; held = refl; fixed = refl; counts = refl; cycle = refl; growing = refl; word = refl; checked = refl }

pub untouched_both : (u v w : View) → Untouched u v → Untouched v w → Untouched u w
untouched_both u v w a b = record { gone = b.gone ∙ a.gone; size = b.size ∙ a.size; own = b.own ∙ a.own; held = b.held ∙ a.held; fixed = b.fixed ∙ a.fixed; counts = b.counts ∙ a.counts; cycle = b.cycle ∙ a.cycle; growing = b.growing ∙ a.growing; word = b.word ∙ a.word; checked = b.checked ∙ a.checked }

pub untouched_all : (v : View) (ks : List Kind) → SweepKinds ks → Untouched v (after v ks)
untouched_all v [] t = untouched_refl v
untouched_all v (k ∷ ks) t = untouched_both v (view_after v k) (after (view_after v k) ks) (untouched_kind v k t.0) (untouched_all (view_after v k) ks t.1)

-- a slot that was swept, and a run of them
pub untouched_swept : (k : ℕ) (v : View) (r : Verdict) (w : View) → SweptBy k v r w → Untouched v w
untouched_swept k v r w s = subst (Untouched v) (sym s.2) (untouched_all v (s.0 ++ PassOver s.1 ∷ []) (kinds_append s.0 (PassOver s.1 ∷ []) s.4 (tt, tt)))

pub untouched_run : (k : ℕ) (rs : List Verdict) (v w : View) → Run k rs v w → Untouched v w
untouched_run k [] v w e = subst (Untouched v) (sym e) (untouched_refl v)
untouched_run k (r ∷ rs) v w e = untouched_both v e.0 w (untouched_swept k v r e.0 e.1) (untouched_run (k + 1) rs e.0 w e.2)
