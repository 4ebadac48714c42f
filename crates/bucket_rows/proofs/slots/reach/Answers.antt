use Rattle.std.proofs.Common.{◌≡◌, ℕ, ◌<◌, List, [], ◌∷◌, ◌++◌, refl, sym, ap, ◌∙◌, subst, arith}
use Rattle.atom_words.specs.Layout.{first_of, version_of, last}
use Rattle.atom_words.specs.Texts.{bucket, padded}
use Rattle.atom_words.specs.Kinds.{view_after}
use Rattle.atom_words.specs.Seats.{seen}
use Rattle.atom_words.specs.declared.view.Sweeping.{Sweeping}
use Rattle.atom_words.specs.declared.view.View.{View}
use Rattle.atom_words.specs.declared.kind.Kind.TheVariants.{Load, Start}
use Rattle.bucket_rows.specs.Treads.{spells, nexts, Treads}
use Rattle.bucket_rows.proofs.Treading.{spells_keep, spells_know, nexts_keep, treads_start}
use Rattle.bucket_rows.proofs.Removing.{then_steps, word_of}
use Rattle.bucket_rows.proofs.Judging.{spelled_at, reached_by}
use Rattle.bucket_rows.proofs.SweepKinds.{kinds_append, kinds_spells, kinds_nexts}
use Rattle.bucket_rows.proofs.Fewness.{few_reached}
use Rattle.bucket_rows.proofs.slots.reach.Goals as goal

pub row_in_use-size-requires : goal.row_in_use-size-requires
row_in_use-size-requires c = let v : View = seen c.args.seat.now in let row : List ℕ = c.spell_row-row.ensures.steps.0 in let is = c.spell_row-row.ensures.steps.1 in
    record { fits = (c.spell_row-row.ensures.same.0 ∙ c.requires.fits.0, ap (λ (y : View). y.size) is ∙ (spells_keep (λ (y : View). y.size) (λ _ _. refl) v row ∙ c.requires.fits.1), ap (λ (y : View). y.gone) is ∙ (spells_keep (λ (y : View). y.gone) (λ _ _. refl) v row ∙ c.requires.fits.2)) }

pub row_bucket-requires : goal.row_bucket-requires
row_bucket-requires c = let ok = c.args.words.now.allowed in let row = c.row_in_use-size.ensures.row in (row.0, omega (arith, row.1, ok))

pub trace-word-requires-clause-fits : goal.trace-word-requires-clause-fits
trace-word-requires-clause-fits c = let v : View = seen c.args.seat.now in let row : List ℕ = c.spell_row-row.ensures.steps.0 in let is = c.spell_row-row.ensures.steps.1 in let loaded = c.row_in_use-size.ensures.steps in (
  c.row_in_use-size.ensures.same.0 ∙ (c.spell_row-row.ensures.same.0 ∙ c.requires.fits.0),
  ap (λ (y : View). y.size) loaded ∙ (ap (λ (y : View). y.size) is ∙ (spells_keep (λ (y : View). y.size) (λ _ _. refl) v row ∙ c.requires.fits.1)),
  ap (λ (y : View). y.gone) loaded ∙ (ap (λ (y : View). y.gone) is ∙ (spells_keep (λ (y : View). y.gone) (λ _ _. refl) v row ∙ c.requires.fits.2)),
)

pub trace-word-requires-clause-head : goal.trace-word-requires-clause-head
trace-word-requires-clause-head c = let row = c.row_in_use-size.ensures.row in let inside = c.row_bucket.ensures.inside in omega (arith, row.1, inside)

pub trace-word-requires-clause-collector : goal.trace-word-requires-clause-collector
trace-word-requires-clause-collector c = let v : View = seen c.args.seat.now in let row : List ℕ = c.spell_row-row.ensures.steps.0 in let f = c.requires.found in
    (record f.0 { text = f.0.text ++ row }, (ap (λ (y : View). y.sweep) c.row_in_use-size.ensures.steps ∙ (ap (λ (y : View). y.sweep) c.spell_row-row.ensures.steps.1 ∙ spells_know v f.0 row f.1.0), f.1.1))

pub returns-then-word-ge-LAST-clause-steps : goal.returns-then-word-ge-LAST-clause-steps
returns-then-word-ge-LAST-clause-steps c = let v : View = seen c.args.seat.now in let u : View = seen c.spell_row-row.new.seat in let t : View = seen c.row_in_use-size.new.seat in let row : List ℕ = c.spell_row-row.ensures.steps.0 in let x : ℕ = c.trace-word.result in let n : ℕ = c.row_in_use-size.result in
    let now : seen c.trace-word.new.seat ≡ view_after t (Start (bucket n (padded row)) x) = c.trace-word.ensures.steps ∙ ap (λ (h : ℕ). view_after t (Start h x)) (c.row_bucket.ensures.bucket ∙ ap (bucket n) c.spell_row-row.ensures.steps.4) in
    (c.if-word-ge-LAST.true, (row, n, then_steps v u (seen c.trace-word.new.seat) (spells row) (Load 1 n ∷ Start (bucket n (padded row)) x ∷ []) c.spell_row-row.ensures.steps.1 (now ∙ ap (λ (y : View). view_after y (Start (bucket n (padded row)) x)) c.row_in_use-size.ensures.steps), c.spell_row-row.ensures.steps.3, c.spell_row-row.ensures.steps.2))

pub returns-then-word-ge-LAST-clause-reached : goal.returns-then-word-ge-LAST-clause-reached
returns-then-word-ge-LAST-clause-reached c =
    spelled_at c.args.slot c.row_bucket.result c.trace-word.result c.row_in_use-size.result c.spell_row-row.ensures.steps.0 (seen c.args.seat.now) (seen c.spell_row-row.new.seat) (seen c.row_in_use-size.new.seat) (seen c.trace-word.new.seat) c.requires.found c.spell_row-row.ensures.steps.1
    c.row_in_use-size.ensures.steps c.trace-word.ensures.steps

pub tread-requires-clause-fits : goal.tread-requires-clause-fits
tread-requires-clause-fits c = let v : View = seen c.args.seat.now in let row : List ℕ = c.spell_row-row.ensures.steps.0 in let is = c.spell_row-row.ensures.steps.1 in let loaded = c.row_in_use-size.ensures.steps in let now = c.trace-word.ensures.steps in (
  c.trace-word.ensures.same.0 ∙ (c.row_in_use-size.ensures.same.0 ∙ (c.spell_row-row.ensures.same.0 ∙ c.requires.fits.0)),
  ap (λ (y : View). y.size) now ∙ (ap (λ (y : View). y.size) loaded ∙ (ap (λ (y : View). y.size) is ∙ (spells_keep (λ (y : View). y.size) (λ _ _. refl) v row ∙ c.requires.fits.1))),
  ap (λ (y : View). y.gone) now ∙ (ap (λ (y : View). y.gone) loaded ∙ (ap (λ (y : View). y.gone) is ∙ (spells_keep (λ (y : View). y.gone) (λ _ _. refl) v row ∙ c.requires.fits.2))),
)

pub tread-requires-clause-start : goal.tread-requires-clause-start
tread-requires-clause-start c = let v : View = seen c.args.seat.now in let u : View = seen c.spell_row-row.new.seat in let t : View = seen c.row_in_use-size.new.seat in let row : List ℕ = c.spell_row-row.ensures.steps.0 in let x : ℕ = c.trace-word.result in let n : ℕ = c.row_in_use-size.result in let s = c.trace-word.new.seat in let f = c.requires.found in
    let now : seen s ≡ view_after t (Start (bucket n (padded row)) x) = c.trace-word.ensures.steps ∙ ap (λ (h : ℕ). view_after t (Start h x)) (c.row_bucket.ensures.bucket ∙ ap (bucket n) c.spell_row-row.ensures.steps.4) in
    let known : v.growing.row ≡ n = sym (spells_keep (λ (y : View). y.growing.row) (λ _ _. refl) v row) ∙ (ap (λ (y : View). y.growing.row) (sym c.spell_row-row.ensures.steps.1) ∙ c.row_in_use-size.ensures.known (record f.0 { text = f.0.text ++ row }) (ap (λ (y : View). y.sweep) c.spell_row-row.ensures.steps.1 ∙ spells_know v f.0 row f.1.0)) in
    let w = subst (Treads c.args.slot x 0 0 (first_of x)) (sym now) (treads_start c.args.slot x n row v u t f c.spell_row-row.ensures.steps.2 c.spell_row-row.ensures.steps.1 c.row_in_use-size.ensures.steps known) in
    subst (λ (m : ℕ). Treads c.args.slot m 0 0 (first_of m) (seen s)) (word_of s c.args.slot x 0 0 (first_of x) w) w

pub returns-clause-steps : goal.returns-clause-steps
returns-clause-steps c = let v : View = seen c.args.seat.now in let u : View = seen c.spell_row-row.new.seat in let r : View = seen c.row_in_use-size.new.seat in let t : View = seen c.trace-word.new.seat in let w : View = seen c.tread.new.seat in let row : List ℕ = c.spell_row-row.ensures.steps.0 in
    let ks = Load 1 c.row_in_use-size.result ∷ Start c.row_bucket.result c.trace-word.result ∷ [] in let e = c.tread.ensures.steps in
    let begun = c.trace-word.ensures.steps ∙ ap (λ (y : View). view_after y (Start c.row_bucket.result c.trace-word.result)) c.row_in_use-size.ensures.steps in
    ((spells row ++ ks) ++ nexts e.0, then_steps v t w (spells row ++ ks) (nexts e.0) (then_steps v u t (spells row) ks c.spell_row-row.ensures.steps.1 begun) e.1, kinds_append (spells row ++ ks) (nexts e.0) (kinds_append (spells row) ks (kinds_spells row) (tt, (tt, tt))) (kinds_nexts e.0), few_reached c.args.words.now.size.slots c.row_in_use-size.result c.row_bucket.result c.trace-word.result row e.0 c.spell_row-row.ensures.steps.3 e.2)

pub returns-clause-reached : goal.returns-clause-reached
returns-clause-reached c = let v : View = seen c.args.seat.now in let u : View = seen c.spell_row-row.new.seat in let r : View = seen c.row_in_use-size.new.seat in let t : View = seen c.trace-word.new.seat in let row : List ℕ = c.spell_row-row.ensures.steps.0 in let x : ℕ = c.trace-word.result in let n : ℕ = c.row_in_use-size.result in let f = c.requires.found in
    let s = c.trace-word.new.seat in let e = c.tread.ensures in
    let q : Sweeping = record f.0 { text = f.0.text ++ row } in let now : seen s ≡ view_after r (Start (bucket n (padded row)) x) = c.trace-word.ensures.steps ∙ ap (λ (h : ℕ). view_after r (Start h x)) (c.row_bucket.ensures.bucket ∙ ap (bucket n) c.spell_row-row.ensures.steps.4) in
    let spelled_ = ap (λ (y : View). y.sweep) c.spell_row-row.ensures.steps.1 ∙ spells_know v f.0 row f.1.0 in
    let known : v.growing.row ≡ n = sym (spells_keep (λ (y : View). y.growing.row) (λ _ _. refl) v row) ∙ (ap (λ (y : View). y.growing.row) (sym c.spell_row-row.ensures.steps.1) ∙ c.row_in_use-size.ensures.known q spelled_) in
    let start = subst (Treads c.args.slot x 0 0 (first_of x)) (sym now) (treads_start c.args.slot x n row v u r f c.spell_row-row.ensures.steps.2 c.spell_row-row.ensures.steps.1 c.row_in_use-size.ensures.steps known) in
    let word : x ≡ s.word = word_of s c.args.slot x 0 0 (first_of x) start in let low : version_of x < last = c.if-word-ge-LAST.false in
    let sweep = ap (λ (y : View). y.sweep) e.steps.1 ∙ (nexts_keep (λ (y : View). y.sweep) (λ _ _. refl) t e.steps.0 ∙ (ap (λ (y : View). y.sweep) c.trace-word.ensures.steps ∙ (ap (λ (y : View). y.sweep) c.row_in_use-size.ensures.steps ∙ spelled_))) in
    (reached_by c.args.slot s.word c.tread.new.seat.word e.stands.0 c.tread.result q (seen c.tread.new.seat) e.stands.1 sweep f.2 (sym e.walk.1) (subst (λ (m : ℕ). version_of m < last) word low), e.low)

pub returns-then-word-ge-LAST-clause-fits : goal.returns-then-word-ge-LAST-clause-fits
returns-then-word-ge-LAST-clause-fits c = let v : View = seen c.args.seat.now in let row : List ℕ = c.spell_row-row.ensures.steps.0 in let is = c.spell_row-row.ensures.steps.1 in let loaded = c.row_in_use-size.ensures.steps in let now = c.trace-word.ensures.steps in (
  c.trace-word.ensures.same.0 ∙ (c.row_in_use-size.ensures.same.0 ∙ (c.spell_row-row.ensures.same.0 ∙ c.requires.fits.0)),
  ap (λ (y : View). y.size) now ∙ (ap (λ (y : View). y.size) loaded ∙ (ap (λ (y : View). y.size) is ∙ (spells_keep (λ (y : View). y.size) (λ _ _. refl) v row ∙ c.requires.fits.1))),
  ap (λ (y : View). y.gone) now ∙ (ap (λ (y : View). y.gone) loaded ∙ (ap (λ (y : View). y.gone) is ∙ (spells_keep (λ (y : View). y.gone) (λ _ _. refl) v row ∙ c.requires.fits.2))),
)

pub returns-clause-fits : goal.returns-clause-fits
returns-clause-fits c = let v : View = seen c.args.seat.now in let t : View = seen c.trace-word.new.seat in let row : List ℕ = c.spell_row-row.ensures.steps.0 in let is = c.spell_row-row.ensures.steps.1 in let loaded = c.row_in_use-size.ensures.steps in let now = c.trace-word.ensures.steps in let e = c.tread.ensures in (
  e.same.0 ∙ (c.trace-word.ensures.same.0 ∙ (c.row_in_use-size.ensures.same.0 ∙ (c.spell_row-row.ensures.same.0 ∙ c.requires.fits.0))),
  ap (λ (y : View). y.size) e.steps.1 ∙ (nexts_keep (λ (y : View). y.size) (λ _ _. refl) t e.steps.0 ∙ (ap (λ (y : View). y.size) now ∙ (ap (λ (y : View). y.size) loaded ∙ (ap (λ (y : View). y.size) is ∙ (spells_keep (λ (y : View). y.size) (λ _ _. refl) v row ∙ c.requires.fits.1))))),
  ap (λ (y : View). y.gone) e.steps.1 ∙ (nexts_keep (λ (y : View). y.gone) (λ _ _. refl) t e.steps.0 ∙ (ap (λ (y : View). y.gone) now ∙ (ap (λ (y : View). y.gone) loaded ∙ (ap (λ (y : View). y.gone) is ∙ (spells_keep (λ (y : View). y.gone) (λ _ _. refl) v row ∙ c.requires.fits.2))))),
)
