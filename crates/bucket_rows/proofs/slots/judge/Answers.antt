use Rattle.std.proofs.Common.{◌≡◌, ℕ, ◌+◌, ◌*◌, ◌≤◌, List, [], ◌∷◌, ◌++◌, refl, sym, ap, ◌∙◌, subst, inl, inr, arith}
use Rattle.atom_words.specs.Layout.{last}
use Rattle.atom_words.specs.Texts.{bucket, padded}
use Rattle.atom_words.specs.Board.{atom_at}
use Rattle.atom_words.specs.Kinds.{view_after, after}
use Rattle.atom_words.specs.Seats.{seen}
use Rattle.atom_words.specs.declared.size.Size.{Size}
use Rattle.atom_words.specs.declared.view.View.{View}
use Rattle.atom_words.specs.declared.kind.Kind.{Kind}
use Rattle.atom_words.specs.declared.kind.Kind.TheVariants.{Load, Start, Look, Condemn, Free}
use Rattle.bucket_rows.specs.Treads.{spells}
use Rattle.bucket_rows.specs.SweepKinds.{Few}
use Rattle.bucket_rows.proofs.Removing.{then_steps}
use Rattle.bucket_rows.proofs.Judging.{found_of, looked_at}
use Rattle.bucket_rows.proofs.SweepKinds.{kinds_append, kinds_spells}
use Rattle.bucket_rows.proofs.Fewness.{few_freed, few_kept, few_worn}
use Rattle.bucket_rows.proofs.slots.judge.Goals as goal

pub returns-then-slot-lt256-clause-steps : goal.returns-then-slot-lt256-clause-steps
returns-then-slot-lt256-clause-steps c = ([], refl, (c.if-slot-lt256.true, refl), tt, (omega arith, omega arith))

pub returns-then-found-ne3-clause-steps : goal.returns-then-found-ne3-clause-steps
returns-then-found-ne3-clause-steps c = (Look c.look-found.result ∷ [], c.look-found.ensures.steps, (c.if-found-ne3.true, ([], inl refl)), (tt, tt), (omega arith, omega arith))

pub returns-then-found-ne3-clause-at : goal.returns-then-found-ne3-clause-at
returns-then-found-ne3-clause-at c = looked_at c.args.slot c.look-found.result (seen c.args.seat.now) (seen c.look-found.new.seat) c.requires.at c.look-found.ensures.steps

pub reach-requires-clause-found : goal.reach-requires-clause-found
reach-requires-clause-found c = let v : View = seen c.args.seat.now in found_of c.args.slot v (seen c.look-found.new.seat) c.requires.at (c.look-found.ensures.steps ∙ ap (λ (x : ℕ). view_after v (Look x)) c.if-found-ne3.false)

pub returns-in-Ok-take_out-clause-steps : goal.returns-in-Ok-take_out-clause-steps
returns-in-Ok-take_out-clause-steps c = let v : View = seen c.args.seat.now in let u : View = seen c.look-found.new.seat in let t : View = seen c.reach.new.seat in let w : View = seen c.take_out.new.seat in let r = c.in-Ok.ensures.steps in let m = c.in-Ok-take_out.ensures.steps in
    let is : u ≡ after v (Look 3 ∷ []) = c.look-found.ensures.steps ∙ ap (λ (x : ℕ). view_after v (Look x)) c.if-found-ne3.false in let ks : List Kind = Look 3 ∷ r.0 in let js : List Kind = Condemn ∷ (m.0 ++ Free ∷ []) in
    (ks ++ js, then_steps v t w ks js (then_steps v u t (Look 3 ∷ []) r.0 is r.1) m.1, (ks, m.0, refl), kinds_append ks js (tt, r.2) (tt, kinds_append m.0 (Free ∷ []) m.2 (tt, tt)), subst (λ (z : Size). Few z.slots 40 (last + 1) (ks ++ js)) (sym c.requires.fits.1) (few_freed c.args.words.now.size.slots r.0 m.0 r.3 m.3))

pub returns-in-Err-take_out-clause-steps : goal.returns-in-Err-take_out-clause-steps
returns-in-Err-take_out-clause-steps c = let v : View = seen c.args.seat.now in let u : View = seen c.look-found.new.seat in let t : View = seen c.reach.new.seat in let w : View = seen c.take_out.new.seat in let r = c.in-Ok.ensures.steps in let m = c.in-Err-take_out.ensures.steps in let x : ℕ = c.in-Err-take_out.word in
    let is : u ≡ after v (Look 3 ∷ []) = c.look-found.ensures.steps ∙ ap (λ (x : ℕ). view_after v (Look x)) c.if-found-ne3.false in let ks : List Kind = Look 3 ∷ r.0 in let js : List Kind = Load (atom_at v.size c.args.slot) x ∷ [] in
    let last_ : w ≡ after t js = m.1 ∙ ap (λ (z : Size). view_after t (Load (atom_at z c.args.slot) x)) (sym c.requires.fits.1) in
    (ks ++ js, then_steps v t w ks js (then_steps v u t (Look 3 ∷ []) r.0 is r.1) last_, (m.0, (ks, inr refl)), kinds_append ks js (tt, r.2) (tt, tt), subst (λ (z : Size). Few z.slots 40 (last + 1) (ks ++ js)) (sym c.requires.fits.1) (few_kept c.args.words.now.size.slots (atom_at v.size c.args.slot) x r.0 r.3))

pub returns-in-Err-clause-steps : goal.returns-in-Err-clause-steps
returns-in-Err-clause-steps c = let v : View = seen c.args.seat.now in let u : View = seen c.look-found.new.seat in let t : View = seen c.reach.new.seat in let m = c.in-Err.ensures.steps in let x : ℕ = c.in-Err.word in
    let is : u ≡ after v (Look 3 ∷ []) = c.look-found.ensures.steps ∙ ap (λ (x : ℕ). view_after v (Look x)) c.if-found-ne3.false in let ends : List Kind = Load 1 m.1.1 ∷ Start (bucket m.1.1 (padded m.1.0)) x ∷ [] in let js : List Kind = spells m.1.0 ++ ends in
    (Look 3 ∷ js, then_steps v u t (Look 3 ∷ []) js is m.1.2, (m.0, (m.1.0, m.1.1, m.1.4, refl)), (tt, kinds_append (spells m.1.0) ends (kinds_spells m.1.0) (tt, (tt, tt))), few_worn v.size.slots m.1.1 (bucket m.1.1 (padded m.1.0)) x m.1.0 m.1.3)
