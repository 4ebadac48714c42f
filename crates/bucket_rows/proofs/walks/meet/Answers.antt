use Rattle.std.proofs.Common.{◌≡◌, ◌<◌, ◌+◌, ℕ, List, [], ◌∷◌, length, refl, sym, ap, ◌∙◌, subst, Some, None}
use Rattle.atom_words.specs.Board.{link_at}
use Rattle.atom_words.specs.Texts.{padded}
use Rattle.atom_words.specs.Kinds.{IsWhole, view_after, after}
use Rattle.atom_words.specs.Plays.{Alone}
use Rattle.atom_words.specs.declared.size.Size.{Size}
use Rattle.atom_words.specs.declared.view.Walk.{Walk}
use Rattle.atom_words.specs.declared.view.View.{View}
use Rattle.atom_words.specs.declared.kind.Kind.TheVariants.{Next}
use Rattle.atom_words.proofs.WalkSteps.{going}
use Rattle.bucket_rows.specs.Walks.{filling, reads, Aside}
use Rattle.bucket_rows.proofs.Filling.{filling_whole, filling_padded}
use Rattle.bucket_rows.proofs.Reading.{after_both, aside_reads, reads_keep, standing_reads, walking_as, alone_as, alone_by, met_by}
use Rattle.bucket_rows.proofs.walks.meet.Goals as goal

-- WHERE THE TEXT IS ANOTHER
pub load-requires : goal.load-requires
load-requires c = let row : List ℕ = c.args.row.now in let v : View = c.args.seat.now.me.0 in let t : View = c.differs.new.seat.me.0 in let o = c.differs.ensures.other c.if-differs.true in
    let s = standing_reads row c.args.head c.args.word c.requires.walk.0 (c.args.slot + 1) [] o.0 v c.requires.walk.1 in let a : Aside v t = subst (Aside v) (sym o.2) (aside_reads v o.0) in
    let same : c.args.words.now.size ≡ t.size = sym (a.size ∙ c.requires.fits.1) in (
      c.differs.ensures.same.0 ∙ c.requires.fits.0,
      c.link_place-link.ensures.inside,
      going c.args.words.now.table.shared.key c.args.words.now.table.shared.table_id.slots c.differs.new.seat.id c.differs.new.seat.me (c.args.words.now.keyed ∙ same) (a.gone ∙ c.requires.fits.2) c.link_place-link.result c.args.slot
          s.walk (ap (λ (y : View). y.walk) o.2 ∙ s.at) s.place (subst (λ (y : Size). c.args.slot < y.slots) same c.requires.slot) (c.link_place-link.ensures.place ∙ ap (λ (y : Size). link_at y c.args.slot) same),
    )

pub returns-then-differs-clause-steps : goal.returns-then-differs-clause-steps
returns-then-differs-clause-steps c = let v : View = c.args.seat.now.me.0 in let t : View = c.differs.new.seat.me.0 in let o = c.differs.ensures.other c.if-differs.true in let x : ℕ = c.load.result in (
  record { part = o.0; dying = None; link = x },
  refl,
  o.1,
  c.load.ensures.2.1 ∙ (ap (λ (y : View). view_after y (Next x)) o.2 ∙ sym (after_both v (reads o.0) (Next x ∷ []))),
)

-- WHERE IT IS THE ONE LOOKED FOR
pub hold-requires-clause-fits : goal.hold-requires-clause-fits
hold-requires-clause-fits c = let v : View = c.args.seat.now.me.0 in let t : View = c.differs.new.seat.me.0 in let a : Aside v t = subst (Aside v) (sym (c.differs.ensures.whole c.if-differs.false)) (aside_reads v (filling c.args.row.now)) in
    (c.differs.ensures.same.0 ∙ c.requires.fits.0, a.size ∙ c.requires.fits.1, a.gone ∙ c.requires.fits.2)

pub hold-requires-clause-none : goal.hold-requires-clause-none
hold-requires-clause-none c = let v : View = c.args.seat.now.me.0 in let t : View = c.differs.new.seat.me.0 in let a : Aside v t = subst (Aside v) (sym (c.differs.ensures.whole c.if-differs.false)) (aside_reads v (filling c.args.row.now)) in a.own ∙ c.requires.none

pub hold-requires-clause-walking : goal.hold-requires-clause-walking
hold-requires-clause-walking c = let v : View = c.args.seat.now.me.0 in let t : View = c.differs.new.seat.me.0 in walking_as v t (subst (Aside v) (sym (c.differs.ensures.whole c.if-differs.false)) (aside_reads v (filling c.args.row.now))) c.requires.walking

pub hold-requires-clause-walk : goal.hold-requires-clause-walk
hold-requires-clause-walk c = let row : List ℕ = c.args.row.now in let s = standing_reads row c.args.head c.args.word c.requires.walk.0 (c.args.slot + 1) [] (filling row) c.args.seat.now.me.0 c.requires.walk.1 in
    (s.walk, ap (λ (y : View). y.walk) (c.differs.ensures.whole c.if-differs.false) ∙ s.at, s.place, subst IsWhole (sym s.part) (filling_whole row c.requires.row), s.head, s.word)

pub returns-else-differs-clause-steps : goal.returns-else-differs-clause-steps
returns-else-differs-clause-steps c = met_by c.args.row.now c.args.slot c.args.word c.args.seat.now.me.0 c.differs.new.seat.me.0 c.hold.new.seat.me.0 c.hold.result (c.differs.ensures.whole c.if-differs.false) c.hold.ensures.steps

pub returns-else-differs-clause-alone : goal.returns-else-differs-clause-alone
returns-else-differs-clause-alone c = let row : List ℕ = c.args.row.now in let v : View = c.args.seat.now.me.0 in let t : View = c.differs.new.seat.me.0 in let whole : t ≡ after v (reads (filling row)) = c.differs.ensures.whole c.if-differs.false in
    let s = standing_reads row c.args.head c.args.word c.requires.walk.0 (c.args.slot + 1) [] (filling row) v c.requires.walk.1 in let a : Aside v t = subst (Aside v) (sym whole) (aside_reads v (filling row)) in
    alone_by c.hold.result ((w : Walk) → t.walk ≡ Some w → Alone t c.args.slot (padded w.part)) (Alone v c.args.slot row)
    (λ told. alone_as v t c.args.slot row (ap (λ (y : View). y.held) whole ∙ reads_keep (λ (y : View). y.held) (λ _ _. refl) v (filling row)) a.fixed (subst (Alone t c.args.slot) (ap padded s.part ∙ filling_padded row c.requires.row) (told s.walk (ap (λ (y : View). y.walk) whole ∙ s.at))))
    c.hold.ensures.alone
