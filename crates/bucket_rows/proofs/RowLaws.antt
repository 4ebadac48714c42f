-- A change of rows loses no text and lets no slot go.
use Rattle.std.proofs.Common.{◌≡◌, ℕ, ◌+◌, ◌<◌, List, [], ◌∷◌, ◌++◌, get_or, refl, sym, ap, ◌∙◌, subst, inl, arith}
use Rattle.atom_words.specs.Layout.{first_of, version_of, head_word}
use Rattle.atom_words.specs.Texts.{bucket}
use Rattle.atom_words.specs.Board.{Board, head, text_of, with_row, with_link, with_head}
use Rattle.atom_words.specs.Chains.{Chain, Linked}
use Rattle.atom_words.specs.Kinds.{view_after, after, Does}
use Rattle.atom_words.specs.declared.size.Size.{Size}
use Rattle.atom_words.specs.declared.view.Growing.{Growing}
use Rattle.atom_words.specs.declared.view.View.{View}
use Rattle.atom_words.specs.declared.kind.Kind.{Kind}
use Rattle.atom_words.specs.declared.kind.Kind.TheVariants.{Load, Start, Read, Next, Aim, Sound, Close, Emptied, Pick, MoveHead, MoveLink, LeaveHead, LeaveLink, PublishRow, Publish}
use Rattle.atom_words.proofs.Rowing.{bucket_in, early_open, chains_still, stands_early}
use Rattle.atom_words.proofs.Every.{reached_kept}
use Rattle.bucket_rows.specs.RowChanges.{RowKind, RowKinds, RowSteps, Settled}
use Rattle.bucket_rows.specs.RowLaws.{Stays, InUse, Leaves}
use Rattle.bucket_rows.proofs.Checks.{after_append}

pub stays : (z : Size) → Stays z
stays z n b vs reached k valid open_ = let r = reached_kept n z b vs reached in let in_ = bucket_in b.row (text_of b.texts k) r.grow.size.0 in
    let inside : bucket b.row (text_of b.texts k) < z.heads = (let size = r.grow.size in omega (arith, in_.1, size.0, size.1)) in
    let early = early_open z b.epoch b.row b.heads b.texts r.plan.chain r.plan.grow r.grow (bucket b.row (text_of b.texts k)) inside open_ in
    let l : Linked z.heads r.plan.chain k = r.slots.valid k valid in
    let at : bucket b.row (text_of b.texts k) ≡ l.0 = stands_early z b.row r.plan.grow b.links b.heads b.texts r.plan.chain r.plan.place r.plan.fate r.rows early l.0 k l.1 l.2 in (
      r.plan.chain l.0,
      subst (λ (h : ℕ). Chain b.links (first_of (get_or b.heads h 0)) (r.plan.chain l.0)) (sym at)
          (chains_still z b.row r.plan.grow b.links b.heads b.texts r.plan.chain r.plan.place r.plan.fate r.rows (r.grow.rest (inl early)).1 l.0 l.1),
      l.2,
    )

pub in_use : (z : Size) → InUse z
in_use z n b vs reached id v y at here sweep = let r = reached_kept n z b vs reached in let s = r.seats id v at here in let row : b.row ≡ v.growing.row = sym r.grow.known ∙ ap (λ (g : Growing). g.row) (s.grows y sweep) in (
  row,
  λ unshut h inside. let zero_ : r.plan.grow.shut ≡ 0 = ap (λ (g : Growing). g.shut) (s.grows y sweep) ∙ unshut in (
    (λ open_. let t = r.grow.closed h inside open_ in (omega (arith, t.0, zero_), t.1)),
    λ t. r.grow.opened h (omega (arith, t.0, zero_)) t.1,
  ),
)

-- STEPS OF A CHANGE OF ROWS leave the rest of the view
pub settled_kind : (v : View) (k : Kind) → RowKind k → Settled v (view_after v k)
settled_kind v (Load i x) t = record { gone = refl; size = refl; own = refl; held = refl; fixed = refl; counts = refl; pass = refl; refusals = refl; asked = refl; undealt = refl; risen = refl; cycle = refl; sweep = refl }
settled_kind v (Start h x) t = record { gone = refl; size = refl; own = refl; held = refl; fixed = refl; counts = refl; pass = refl; refusals = refl; asked = refl; undealt = refl; risen = refl; cycle = refl; sweep = refl }
settled_kind v (Read x) t = record { gone = refl; size = refl; own = refl; held = refl; fixed = refl; counts = refl; pass = refl; refusals = refl; asked = refl; undealt = refl; risen = refl; cycle = refl; sweep = refl }
settled_kind v (Next x) t = record { gone = refl; size = refl; own = refl; held = refl; fixed = refl; counts = refl; pass = refl; refusals = refl; asked = refl; undealt = refl; risen = refl; cycle = refl; sweep = refl }
settled_kind v (Aim row) t = record { gone = refl; size = refl; own = refl; held = refl; fixed = refl; counts = refl; pass = refl; refusals = refl; asked = refl; undealt = refl; risen = refl; cycle = refl; sweep = refl }
settled_kind v (Sound x) t = record { gone = refl; size = refl; own = refl; held = refl; fixed = refl; counts = refl; pass = refl; refusals = refl; asked = refl; undealt = refl; risen = refl; cycle = refl; sweep = refl }
settled_kind v (Close h) t = record { gone = refl; size = refl; own = refl; held = refl; fixed = refl; counts = refl; pass = refl; refusals = refl; asked = refl; undealt = refl; risen = refl; cycle = refl; sweep = refl }
settled_kind v Emptied t = record { gone = refl; size = refl; own = refl; held = refl; fixed = refl; counts = refl; pass = refl; refusals = refl; asked = refl; undealt = refl; risen = refl; cycle = refl; sweep = refl }
settled_kind v (Pick a before) t = record { gone = refl; size = refl; own = refl; held = refl; fixed = refl; counts = refl; pass = refl; refusals = refl; asked = refl; undealt = refl; risen = refl; cycle = refl; sweep = refl }
settled_kind v (MoveHead h) t = record { gone = refl; size = refl; own = refl; held = refl; fixed = refl; counts = refl; pass = refl; refusals = refl; asked = refl; undealt = refl; risen = refl; cycle = refl; sweep = refl }
settled_kind v (MoveLink q) t = record { gone = refl; size = refl; own = refl; held = refl; fixed = refl; counts = refl; pass = refl; refusals = refl; asked = refl; undealt = refl; risen = refl; cycle = refl; sweep = refl }
settled_kind v (LeaveHead h) t = record { gone = refl; size = refl; own = refl; held = refl; fixed = refl; counts = refl; pass = refl; refusals = refl; asked = refl; undealt = refl; risen = refl; cycle = refl; sweep = refl }
settled_kind v (LeaveLink q) t = record { gone = refl; size = refl; own = refl; held = refl; fixed = refl; counts = refl; pass = refl; refusals = refl; asked = refl; undealt = refl; risen = refl; cycle = refl; sweep = refl }
settled_kind v (PublishRow row) t = record { gone = refl; size = refl; own = refl; held = refl; fixed = refl; counts = refl; pass = refl; refusals = refl; asked = refl; undealt = refl; risen = refl; cycle = refl; sweep = refl }
settled_kind v (Publish h) t = record { gone = refl; size = refl; own = refl; held = refl; fixed = refl; counts = refl; pass = refl; refusals = refl; asked = refl; undealt = refl; risen = refl; cycle = refl; sweep = refl }
settled_kind v _ t = absurd t

pub settled_refl : (v : View) → Settled v v
settled_refl v = record { gone = refl; size = refl; own = refl; held = refl; fixed = refl; counts = refl; pass = refl; refusals = refl; asked = refl; undealt = refl; risen = refl; cycle = refl; sweep = refl }

pub settled_both : (u v w : View) → Settled u v → Settled v w → Settled u w
settled_both u v w a b = record { gone = b.gone ∙ a.gone; size = b.size ∙ a.size; own = b.own ∙ a.own; held = b.held ∙ a.held; fixed = b.fixed ∙ a.fixed; counts = b.counts ∙ a.counts; pass = b.pass ∙ a.pass; refusals = b.refusals ∙ a.refusals; asked = b.asked ∙ a.asked; undealt = b.undealt ∙ a.undealt; risen = b.risen ∙ a.risen; cycle = b.cycle ∙ a.cycle; sweep = b.sweep ∙ a.sweep }

pub settled_all : (v : View) (ks : List Kind) → RowKinds ks → Settled v (after v ks)
settled_all v [] t = settled_refl v
settled_all v (k ∷ ks) t = settled_both v (view_after v k) (after (view_after v k) ks) (settled_kind v k t.0) (settled_all (view_after v k) ks t.1)

pub settled_by : (v w : View) → RowSteps v w → Settled v w
settled_by v w s = subst (Settled v) (sym s.1) (settled_all v s.0 s.2)

-- no word of a slot, no text, no word of the cycle
same_words : (b b' c : Board) → b' ≡ c → (c.atoms ≡ b.atoms) × (c.texts ≡ b.texts) × (c.epoch ≡ b.epoch) × (c.acks ≡ b.acks) → (b'.atoms ≡ b.atoms) × (b'.texts ≡ b.texts) × (b'.epoch ≡ b.epoch) × (b'.acks ≡ b.acks)
same_words b b' c e t = subst (λ (x : Board). (x.atoms ≡ b.atoms) × (x.texts ≡ b.texts) × (x.epoch ≡ b.epoch) × (x.acks ≡ b.acks)) (sym e) t

same_kind : (z : Size) (b : Board) (v : View) (kind : Kind) (b' : Board) → RowKind kind → Does z b v kind b' → (b'.atoms ≡ b.atoms) × (b'.texts ≡ b.texts) × (b'.epoch ≡ b.epoch) × (b'.acks ≡ b.acks)
same_kind z b v (Load i x) b' t d = same_words b b' b d.1 (refl, refl, refl, refl)
same_kind z b v (Start h x) b' t d = same_words b b' b d.3 (refl, refl, refl, refl)
same_kind z b v (Read x) b' t d = same_words b b' b d.6 (refl, refl, refl, refl)
same_kind z b v (Next x) b' t d = same_words b b' b d.5 (refl, refl, refl, refl)
same_kind z b v (Aim row) b' t d = same_words b b' b d.3 (refl, refl, refl, refl)
same_kind z b v (Sound x) b' t d = same_words b b' b d.6 (refl, refl, refl, refl)
same_kind z b v (Close h) b' t d = same_words b b' (with_head b h (head_word (first_of (head b h)) 1 (version_of (head b h) + 1))) d.5 (refl, refl, refl, refl)
same_kind z b v Emptied b' t d = same_words b b' b d.4 (refl, refl, refl, refl)
same_kind z b v (Pick a before) b' t d = same_words b b' b d.9 (refl, refl, refl, refl)
same_kind z b v (MoveHead h) b' t d = same_words b b' (with_head b h (head_word (d.1.slot + 1) 1 (version_of (head b h)))) d.6 (refl, refl, refl, refl)
same_kind z b v (MoveLink q) b' t d = same_words b b' (with_link b q (d.1.slot + 1)) d.9 (refl, refl, refl, refl)
same_kind z b v (LeaveHead h) b' t d = same_words b b' (with_head b h (head_word 0 1 (version_of (head b h)))) d.4 (refl, refl, refl, refl)
same_kind z b v (LeaveLink q) b' t d = same_words b b' (with_link b q 0) d.3 (refl, refl, refl, refl)
same_kind z b v (PublishRow row) b' t d = same_words b b' (with_row b row) d.5 (refl, refl, refl, refl)
same_kind z b v (Publish h) b' t d = same_words b b' (with_head b h (head_word (first_of (head b h)) 0 (version_of (head b h) + 1))) d.5 (refl, refl, refl, refl)
same_kind z b v _ b' t d = absurd t

pub leaves : (z : Size) → Leaves z
leaves z b v kind b' t d = let w = same_kind z b v kind b' t d in (w.0, w.1, w.2, w.3, settled_kind v kind t)

-- STEPS AFTER STEPS
pub kinds_join : (ks js : List Kind) → RowKinds ks → RowKinds js → RowKinds (ks ++ js)
kinds_join [] js a b = b
kinds_join (k ∷ ks) js a b = (a.0, kinds_join ks js a.1 b)

pub rows_refl : (v : View) → RowSteps v v
rows_refl v = ([], refl, tt)

pub rows_both : (u v w : View) → RowSteps u v → RowSteps v w → RowSteps u w
rows_both u v w a b = (a.0 ++ b.0, b.1 ∙ (ap (λ (y : View). after y b.0) a.1 ∙ sym (after_append u a.0 b.0)), kinds_join a.0 b.0 a.2 b.2)

pub rows_one : (v w : View) (k : Kind) → RowKind k → w ≡ after v (k ∷ []) → RowSteps v w
rows_one v w k t e = (k ∷ [], e, (t, tt))
