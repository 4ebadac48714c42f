use Rattle.std.proofs.Common.{◌≡◌, ◌<◌, ◌≤◌, [], ◌∷◌, ℕ, Bool, true, List, refl, inl, sym, ap, ◌∙◌, subst, arith}
use Rattle.std.specs.Prelude.{◌||◌, nat_lt}
use Rattle.std.proofs.lemmas.Bool.{lt-ltb}
use Rattle.atom_words.specs.Chains.{In}
use Rattle.atom_words.specs.Kinds.{view_after, after}
use Rattle.atom_words.specs.Seats.{seen}
use Rattle.atom_words.specs.declared.size.Size.{Size}
use Rattle.atom_words.specs.declared.view.View.{View}
use Rattle.atom_words.specs.declared.kind.Kind.TheVariants.{Scan, Protect, Ack}
use Rattle.bucket_rows.proofs.Checks.{after_append}
use Rattle.bucket_rows.specs.Touches.{has_slot}
use Rattle.atom_table.specs.Naming.{those}
use Rattle.atom_table.specs.Collecting.{marking, scans}
use Rattle.atom_table.proofs.Naming.{only_those}
use Rattle.atom_table.proofs.Scans.{scans_keep, scans_all, slot_found, those_live, sits_cut, sits_same}
use Rattle.atom_table.proofs.table.AtomTable.mark_and_ack.Goals as goal

pub scan_all-requires-clause-fits : goal.scan_all-requires-clause-fits
scan_all-requires-clause-fits c = let is = c.in-Ok.ensures.steps.3 in let f = c.requires.sits.0 in (c.mark_live.ensures.same.0 ∙ f.0, ap (λ (y : View). y.size) is ∙ f.1, ap (λ (y : View). y.gone) is ∙ f.2)

pub ack-requires-clause-fits : goal.ack-requires-clause-fits
ack-requires-clause-fits c = let is = c.in-Ok.ensures.steps.3 in let f = c.requires.sits.0 in let u : View = seen c.mark_live.new.seat in let xs : List ℕ = c.scan_all.ensures.steps.0 in let to = c.scan_all.ensures.steps.2 in let ks : List ℕ = c.args.live.now in (
  c.scan_all.ensures.same.0 ∙ (c.mark_live.ensures.same.0 ∙ f.0),
  ap (λ (y : View). y.size) to ∙ (scans_keep (λ (y : View). y.size) (λ _ _. refl) (λ _ _ _. refl) u u ks xs ∙ (ap (λ (y : View). y.size) is ∙ f.1)),
  ap (λ (y : View). y.gone) to ∙ (scans_keep (λ (y : View). y.gone) (λ _ _. refl) (λ _ _ _. refl) u u ks xs ∙ (ap (λ (y : View). y.gone) is ∙ f.2)),
)

pub ack-requires-clause-scanning : goal.ack-requires-clause-scanning
ack-requires-clause-scanning c = let s = c.in-Ok.ensures.steps in let is = s.3 in let u : View = seen c.mark_live.new.seat in let xs : List ℕ = c.scan_all.ensures.steps.0 in let to = c.scan_all.ensures.steps.2 in let ks : List ℕ = c.args.live.now in
    let engine = ap (λ (y : View). y.cycle.engine) to ∙ (scans_keep (λ (y : View). y.cycle.engine) (λ _ _. refl) (λ _ _ _. refl) u u ks xs ∙ ap (λ (y : View). y.cycle.engine) is) in
    let acked = ap (λ (y : View). y.cycle.acked) to ∙ (scans_keep (λ (y : View). y.cycle.acked) (λ _ _. refl) (λ _ _ _. refl) u u ks xs ∙ ap (λ (y : View). y.cycle.acked) is) in
    let at = ap (λ (y : View). y.cycle.scanned_at) to ∙ (scans_keep (λ (y : View). y.cycle.scanned_at) (λ _ _. refl) (λ _ _ _. refl) u u ks xs ∙ ap (λ (y : View). y.cycle.scanned_at) is) in
    ((λ none. c.requires.engine.0 (sym engine ∙ none)), (let late = s.1.1 in omega arith))

pub ack-requires-clause-epoch : goal.ack-requires-clause-epoch
ack-requires-clause-epoch c = let s = c.in-Ok.ensures.steps in let u : View = seen c.mark_live.new.seat in
    ap (λ (y : View). y.cycle.scanned_at) c.scan_all.ensures.steps.2 ∙ (scans_keep (λ (y : View). y.cycle.scanned_at) (λ _ _. refl) (λ _ _ _. refl) u u c.args.live.now c.scan_all.ensures.steps.0 ∙ (ap (λ (y : View). y.cycle.scanned_at) s.3 ∙ sym s.2))

pub ack-requires-clause-engine : goal.ack-requires-clause-engine
ack-requires-clause-engine c = let u : View = seen c.mark_live.new.seat in subst (λ (n : ℕ). n ≤ c.args.self.now.words.size.engines) (sym (ap (λ (y : View). y.cycle.engine) c.scan_all.ensures.steps.2 ∙ scans_keep (λ (y : View). y.cycle.engine) (λ _ _. refl) (λ _ _ _. refl) u u c.args.live.now c.scan_all.ensures.steps.0)) c.mark_live.ensures.engine

pub ack-requires-clause-all : goal.ack-requires-clause-all
ack-requires-clause-all c = λ h i. let v : View = seen c.args.seat.now in let u : View = seen c.mark_live.new.seat in let xs : List ℕ = c.scan_all.ensures.steps.0 in let to = c.scan_all.ensures.steps.2 in let ks : List ℕ = c.args.live.now in let is = c.in-Ok.ensures.steps.3 in
    let marked : u.held ≡ those ks v.held = ap (λ (y : View). y.held) is in let size : u.size ≡ v.size = ap (λ (y : View). y.size) is in
    let kept : (seen c.scan_all.new.seat).held ≡ u.held = ap (λ (y : View). y.held) to ∙ scans_keep (λ (y : View). y.held) (λ _ _. refl) (λ _ _ _. refl) u u ks xs in
    let own : In h (those ks v.held) = subst (In h) (kept ∙ marked) i in let low : h.slot < v.size.slots = c.requires.sits.2.inside h (inl (only_those ks v.held h own)) in
    subst (λ (y : View). In h.slot y.cycle.scanned) (sym to)
    (scans_all u u ks xs h.slot c.scan_all.ensures.steps.1 (those_live ks v.held h own) (subst (λ (z : Size). nat_lt h.slot z.slots ≡ true) (sym size) (lt-ltb h.slot v.size.slots low))
    (ap (λ (b : Bool). b || has_slot h.slot u.fixed) (slot_found h u.held (subst (In h) (sym marked) own))))

-- the view after the acknowledgement, in what the steps before leave
kept_by : {A : Type 0} (f : View → A) → ((v : View) (k : ℕ) → f (view_after v (Scan k)) ≡ f v) → ((v : View) (k x : ℕ) → f (view_after v (Protect k x)) ≡ f v) → ((v : View) → f (view_after v Ack) ≡ f v) → (u t w : View) (ks xs : List ℕ) → t ≡ after u (scans u ks xs) → w ≡ after t (Ack ∷ []) → f w ≡ f u
kept_by f scan protect ack u t w ks xs to last = ap f last ∙ (ack t ∙ (ap f to ∙ scans_keep f scan protect u u ks xs))

pub returns-in-Ok-clause-sits : goal.returns-in-Ok-clause-sits
returns-in-Ok-clause-sits c = let u : View = seen c.mark_live.new.seat in let t : View = seen c.scan_all.new.seat in let w : View = seen c.ack.new.seat in let ks : List ℕ = c.args.live.now in let is = c.in-Ok.ensures.steps.3 in
    sits_cut c.args.self.now.words ks c.args.seat.now c.ack.new.seat (c.ack.ensures.same.0 ∙ (c.scan_all.ensures.same.0 ∙ c.mark_live.ensures.same.0), c.ack.ensures.same.1 ∙ (c.scan_all.ensures.same.1 ∙ c.mark_live.ensures.same.1))
    (kept_by (λ (y : View). y.held) (λ _ _. refl) (λ _ _ _. refl) (λ _. refl) u t w ks c.scan_all.ensures.steps.0 c.scan_all.ensures.steps.2 c.ack.ensures.steps ∙ ap (λ (y : View). y.held) is)
    (kept_by (λ (y : View). y.fixed) (λ _ _. refl) (λ _ _ _. refl) (λ _. refl) u t w ks c.scan_all.ensures.steps.0 c.scan_all.ensures.steps.2 c.ack.ensures.steps ∙ ap (λ (y : View). y.fixed) is)
    (kept_by (λ (y : View). y.size) (λ _ _. refl) (λ _ _ _. refl) (λ _. refl) u t w ks c.scan_all.ensures.steps.0 c.scan_all.ensures.steps.2 c.ack.ensures.steps ∙ ap (λ (y : View). y.size) is)
    (kept_by (λ (y : View). y.gone) (λ _ _. refl) (λ _ _ _. refl) (λ _. refl) u t w ks c.scan_all.ensures.steps.0 c.scan_all.ensures.steps.2 c.ack.ensures.steps ∙ ap (λ (y : View). y.gone) is)
    (kept_by (λ (y : View). y.own) (λ _ _. refl) (λ _ _ _. refl) (λ _. refl) u t w ks c.scan_all.ensures.steps.0 c.scan_all.ensures.steps.2 c.ack.ensures.steps ∙ ap (λ (y : View). y.own) is)
    (kept_by (λ (y : View). y.counts) (λ _ _. refl) (λ _ _ _. refl) (λ _. refl) u t w ks c.scan_all.ensures.steps.0 c.scan_all.ensures.steps.2 c.ack.ensures.steps ∙ ap (λ (y : View). y.counts) is)
    c.requires.sits

pub returns-in-Ok-clause-engine : goal.returns-in-Ok-clause-engine
returns-in-Ok-clause-engine c = let u : View = seen c.mark_live.new.seat in let t : View = seen c.scan_all.new.seat in let w : View = seen c.ack.new.seat in let ks : List ℕ = c.args.live.now in let is = c.in-Ok.ensures.steps.3 in
    let engine = kept_by (λ (y : View). y.cycle.engine) (λ _ _. refl) (λ _ _ _. refl) (λ _. refl) u t w ks c.scan_all.ensures.steps.0 c.scan_all.ensures.steps.2 c.ack.ensures.steps ∙ ap (λ (y : View). y.cycle.engine) is in
    ((λ none. c.requires.engine.0 (sym engine ∙ none)), kept_by (λ (y : View). y.sweep) (λ _ _. refl) (λ _ _ _. refl) (λ _. refl) u t w ks c.scan_all.ensures.steps.0 c.scan_all.ensures.steps.2 c.ack.ensures.steps ∙ (ap (λ (y : View). y.sweep) is ∙ c.requires.engine.1))

pub returns-in-Ok-clause-steps : goal.returns-in-Ok-clause-steps
returns-in-Ok-clause-steps c = let v : View = seen c.args.seat.now in let s = c.in-Ok.ensures.steps in let ks : List ℕ = c.args.live.now in let m : View = marking s.0 ks v in let xs : List ℕ = c.scan_all.ensures.steps.0 in (
  s.0,
  xs,
  s.1,
  s.2,
  c.scan_all.ensures.steps.1,
  c.ack.ensures.steps ∙ (ap (λ (y : View). view_after y Ack) (c.scan_all.ensures.steps.2 ∙ ap (λ (y : View). after y (scans y ks xs)) s.3) ∙ sym (after_append m (scans m ks xs) (Ack ∷ []))),
)

pub returns-in-Err-clause-sits : goal.returns-in-Err-clause-sits
returns-in-Err-clause-sits c = let is = c.in-Err.ensures.steps.1 in sits_same c.args.self.now.words c.args.seat.now c.mark_live.new.seat c.mark_live.ensures.same
    (ap (λ (y : View). y.held) is) (ap (λ (y : View). y.fixed) is) (ap (λ (y : View). y.size) is) (ap (λ (y : View). y.gone) is) (ap (λ (y : View). y.own) is) (ap (λ (y : View). y.counts) is) c.requires.sits
