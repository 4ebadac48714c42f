use Rattle.std.proofs.Common.{◌≡◌, ◌≢◌, ◌<◌, ◌++◌, ℕ, List, [], ◌∷◌, ◌≤◌, length, refl, sym, ap, ◌∙◌, subst, arith, None}
use Rattle.atom_words.specs.Layout.{closed_of}
use Rattle.atom_words.specs.Board.{head_at}
use Rattle.atom_words.specs.Texts.{row_of, bucket}
use Rattle.atom_words.specs.Kinds.{view_after}
use Rattle.atom_words.specs.Ties.{own_slot}
use Rattle.atom_words.specs.Seats.{Walking}
use Rattle.atom_words.specs.declared.size.Size.{Size}
use Rattle.atom_words.specs.declared.view.View.{View}
use Rattle.atom_words.specs.declared.kind.Kind.TheVariants.{Start, Barred}
use Rattle.atom_words.proofs.WalkSteps.{starting_walk}
use Rattle.atom_words.proofs.Tied.{own_tied, walk_tied, pass_tied, same_passes}
use Rattle.bucket_rows.specs.Walks.{spelled, Walks, Missing, Aside}
use Rattle.bucket_rows.specs.Standing.{Standing, IsTextRow}
use Rattle.bucket_rows.proofs.Filling.{text_row_is}
use Rattle.bucket_rows.proofs.Reading.{standing_start}
use Rattle.bucket_rows.proofs.Told.{walks_steps, walks_aside, walks_refused, walks_held, walks_last, walks_tied}
use Rattle.bucket_rows.proofs.walks.walk_row.Goals as goal

pub bucket-head-requires-clause-row : goal.bucket-head-requires-clause-row
bucket-head-requires-clause-row c = let ok = c.args.words.now.allowed in (c.requires.row.0, omega (arith, c.requires.row.1, ok))

pub load-word-requires : goal.load-word-requires
load-word-requires c = let same : c.args.words.now.size ≡ c.args.seat.now.seat.me.0.size = sym c.requires.fits.1 in let inside : c.bucket-head.result < c.args.words.now.size.heads = let s = c.bucket-head.ensures.inside in let ok = c.requires.row in omega (arith, s, ok.1) in (
  c.requires.fits.0,
  c.head_place-top.ensures.inside,
  starting_walk c.args.words.now.table.shared.key c.args.words.now.table.shared.table_id.slots c.args.seat.now.seat.id c.args.seat.now.seat.me (c.args.words.now.keyed ∙ same) c.requires.fits.2 c.head_place-top.result c.bucket-head.result
      (c.head_place-top.ensures.place ∙ ap (λ (y : Size). head_at y c.bucket-head.result) same) (subst (λ (y : Size). c.bucket-head.result < y.heads) same inside),
)

-- WHERE THE HEAD IS CLOSED
pub invariant_of-seat : goal.invariant_of-seat
invariant_of-seat c = let same : c.args.words.now.size ≡ c.args.seat.now.seat.me.0.size = sym c.requires.fits.1 in let v : View = c.args.seat.now.seat.me.0 in let w : View = c.load-word.new.seat.me.0 in let x : ℕ = c.load-word.result in let s = c.args.seat.now in
    let told = c.load-word.ensures.2.1 c.bucket-head.result (c.head_place-top.ensures.place ∙ ap (λ (y : Size). head_at y c.bucket-head.result) same) in
    let is : w ≡ view_after v (Barred c.bucket-head.result x) = told.1 (λ e. let one = c.if-word-eq1.true in omega arith) in let a : View = view_after v (Barred c.bucket-head.result x) in record {
      slotless = c.load-word.ensures.2.0 ∙ s.slotless;
      numbered = ap (λ (y : View). y.cycle.engine) is ∙ s.numbered;
      acknowledged = ap (λ (y : View). y.cycle.acked) is ∙ s.acknowledged;
      owns = own_tied a w s.own is s.owns;
      walks = walk_tied a w s.head s.word is s.walks;
      passes = pass_tied a w s.began s.first s.counted is s.passes;
    }

pub returns-then-word-eq1-clause-steps : goal.returns-then-word-eq1-clause-steps
returns-then-word-eq1-clause-steps c = let same : c.args.words.now.size ≡ c.args.seat.now.seat.me.0.size = sym c.requires.fits.1 in let told = c.load-word.ensures.2.1 c.bucket-head.result (c.head_place-top.ensures.place ∙ ap (λ (y : Size). head_at y c.bucket-head.result) same) in
    let closed : closed_of c.load-word.result ≢ 0 = (λ e. let one = c.if-word-eq1.true in omega arith) in (closed, told.1 closed ∙ ap (λ (h : ℕ). view_after c.args.seat.now.seat.me.0 (Barred h c.load-word.result)) (c.bucket-head.ensures.bucket ∙ ap (λ (l : List ℕ). bucket c.args.row_size (row_of l)) (c.as_bytes-2.ensures.value ∙ c.as_str-2.ensures)))

pub returns-then-word-eq1-clause-aside : goal.returns-then-word-eq1-clause-aside
returns-then-word-eq1-clause-aside c = let same : c.args.words.now.size ≡ c.args.seat.now.seat.me.0.size = sym c.requires.fits.1 in let told = c.load-word.ensures.2.1 c.bucket-head.result (c.head_place-top.ensures.place ∙ ap (λ (y : Size). head_at y c.bucket-head.result) same) in
    let v : View = c.args.seat.now.seat.me.0 in
    subst (Aside v) (sym (told.1 (λ e. let one = c.if-word-eq1.true in omega arith))) (record { gone = refl; size = refl; own = refl; fixed = refl; counts = refl; pass = refl; asked = refl; undealt = refl; cycle = refl; sweep = refl; risen = refl })

pub returns-then-word-eq1-clause-held : goal.returns-then-word-eq1-clause-held
returns-then-word-eq1-clause-held c = let same : c.args.words.now.size ≡ c.args.seat.now.seat.me.0.size = sym c.requires.fits.1 in let told = c.load-word.ensures.2.1 c.bucket-head.result (c.head_place-top.ensures.place ∙ ap (λ (y : Size). head_at y c.bucket-head.result) same) in
    ap (λ (y : View). y.held) (told.1 (λ e. let one = c.if-word-eq1.true in omega arith))

pub returns-then-word-eq1-clause-refused : goal.returns-then-word-eq1-clause-refused
returns-then-word-eq1-clause-refused c = let same : c.args.words.now.size ≡ c.args.seat.now.seat.me.0.size = sym c.requires.fits.1 in let told = c.load-word.ensures.2.1 c.bucket-head.result (c.head_place-top.ensures.place ∙ ap (λ (y : Size). head_at y c.bucket-head.result) same) in
    ap (λ (y : View). y.refusals) (told.1 (λ e. let one = c.if-word-eq1.true in omega arith))

-- WHERE IT IS OPEN
pub walk_chain-requires-clause-fits : goal.walk_chain-requires-clause-fits
walk_chain-requires-clause-fits c = let same : c.args.words.now.size ≡ c.args.seat.now.seat.me.0.size = sym c.requires.fits.1 in let told = c.load-word.ensures.2.1 c.bucket-head.result (c.head_place-top.ensures.place ∙ ap (λ (y : Size). head_at y c.bucket-head.result) same) in
    let is = told.0 (let ne = c.if-word-eq1.false in omega arith) in (c.load-word.ensures.0 ∙ c.requires.fits.0, ap (λ (y : View). y.size) is ∙ c.requires.fits.1, ap (λ (y : View). y.gone) is ∙ c.requires.fits.2)

pub walk_chain-requires-clause-none : goal.walk_chain-requires-clause-none
walk_chain-requires-clause-none c = let same : c.args.words.now.size ≡ c.args.seat.now.seat.me.0.size = sym c.requires.fits.1 in let told = c.load-word.ensures.2.1 c.bucket-head.result (c.head_place-top.ensures.place ∙ ap (λ (y : Size). head_at y c.bucket-head.result) same) in
    ap (λ (y : View). y.own) (told.0 (let ne = c.if-word-eq1.false in omega arith)) ∙ c.requires.none

pub walk_chain-requires-clause-walking : goal.walk_chain-requires-clause-walking
walk_chain-requires-clause-walking c = let same : c.args.words.now.size ≡ c.args.seat.now.seat.me.0.size = sym c.requires.fits.1 in let told = c.load-word.ensures.2.1 c.bucket-head.result (c.head_place-top.ensures.place ∙ ap (λ (y : Size). head_at y c.bucket-head.result) same) in
    subst (λ (y : View). Walking y) (sym (told.0 (let ne = c.if-word-eq1.false in omega arith))) c.requires.walking

pub walk_chain-requires-clause-walk : goal.walk_chain-requires-clause-walk
walk_chain-requires-clause-walk c = let same : c.args.words.now.size ≡ c.args.seat.now.seat.me.0.size = sym c.requires.fits.1 in let told = c.load-word.ensures.2.1 c.bucket-head.result (c.head_place-top.ensures.place ∙ ap (λ (y : Size). head_at y c.bucket-head.result) same) in
    let x : ℕ = c.load-word.result in
    subst (Standing c.text_row-row.result c.bucket-head.result x 0 (Rattle.atom_words.specs.Layout.first_of x) []) (sym (told.0 (let ne = c.if-word-eq1.false in omega arith))) (standing_start c.text_row-row.result c.bucket-head.result x c.args.seat.now.seat.me.0)

pub invariant_of-seat-2 : goal.invariant_of-seat-2
invariant_of-seat-2 c = let same : c.args.words.now.size ≡ c.args.seat.now.seat.me.0.size = sym c.requires.fits.1 in let told = c.load-word.ensures.2.1 c.bucket-head.result (c.head_place-top.ensures.place ∙ ap (λ (y : Size). head_at y c.bucket-head.result) same) in
    let v : View = c.args.seat.now.seat.me.0 in let u : View = c.load-word.new.seat.me.0 in let w : View = c.walk_chain.new.seat.me.0 in let h : ℕ = c.bucket-head.result in let x : ℕ = c.load-word.result in let s = c.args.seat.now in let unclosed : closed_of x ≡ 0 = (let ne = c.if-word-eq1.false in omega arith) in
    let is : u ≡ view_after v (Start h x) = told.0 unclosed in let a = walks_aside c.text_row-row.result h x v u w is unclosed c.walk_chain.result c.walk_chain.ensures.steps in let t = walks_tied c.text_row-row.result h x v u w is unclosed c.walk_chain.result c.walk_chain.ensures.steps in
    let inside : h < c.args.words.now.size.heads = let m = c.bucket-head.ensures.inside in let ok = c.requires.row in omega (arith, m, ok.1) in record {
      slotless = c.walk_chain.ensures.same.2 ∙ (c.load-word.ensures.2.0 ∙ s.slotless);
      numbered = ap (λ y. y.engine) a.cycle ∙ s.numbered;
      acknowledged = ap (λ y. y.acked) a.cycle ∙ s.acknowledged;
      owns = (ap (own_slot s.own) a.own ∙ s.owns.0, subst (λ (y : Size). s.own < y.slots) (sym a.size) s.owns.1);
      walks = (t.0, t.1, subst (λ (y : Size). h < y.heads) (same ∙ sym a.size) inside);
      passes = same_passes v w s.began s.first s.counted a.pass s.passes;
    }

pub returns-clause-steps : goal.returns-clause-steps
returns-clause-steps c = let same : c.args.words.now.size ≡ c.args.seat.now.seat.me.0.size = sym c.requires.fits.1 in let told = c.load-word.ensures.2.1 c.bucket-head.result (c.head_place-top.ensures.place ∙ ap (λ (y : Size). head_at y c.bucket-head.result) same) in
    let v : View = c.args.seat.now.seat.me.0 in let u : View = c.load-word.new.seat.me.0 in let w : View = c.walk_chain.new.seat.me.0 in let h : ℕ = c.bucket-head.result in let x : ℕ = c.load-word.result in let unclosed : closed_of x ≡ 0 = (let ne = c.if-word-eq1.false in omega arith) in
    let row : c.text_row-row.result ≡ spelled c.args.text.now = c.text_row-row.ensures ∙ ap row_of (c.as_bytes.ensures.value ∙ c.as_str.ensures) in
    let head : h ≡ bucket c.args.row_size (spelled c.args.text.now) = c.bucket-head.ensures.bucket ∙ ap (λ (l : List ℕ). bucket c.args.row_size (row_of l)) (c.as_bytes-2.ensures.value ∙ c.as_str-2.ensures) in
    let P : List ℕ × ℕ → Type 0 = λ p. Walks p.0 p.1 v c.walk_chain.result w in
    subst P (λ i. (row i, head i)) (walks_steps c.text_row-row.result h x v u w (told.0 unclosed) unclosed c.walk_chain.result c.walk_chain.ensures.word c.walk_chain.ensures.steps)

pub returns-clause-aside : goal.returns-clause-aside
returns-clause-aside c = let same : c.args.words.now.size ≡ c.args.seat.now.seat.me.0.size = sym c.requires.fits.1 in let told = c.load-word.ensures.2.1 c.bucket-head.result (c.head_place-top.ensures.place ∙ ap (λ (y : Size). head_at y c.bucket-head.result) same) in
    let v : View = c.args.seat.now.seat.me.0 in let u : View = c.load-word.new.seat.me.0 in let w : View = c.walk_chain.new.seat.me.0 in let h : ℕ = c.bucket-head.result in let x : ℕ = c.load-word.result in let unclosed : closed_of x ≡ 0 = (let ne = c.if-word-eq1.false in omega arith) in
    walks_aside c.text_row-row.result h x v u w (told.0 unclosed) unclosed c.walk_chain.result c.walk_chain.ensures.steps

pub returns-clause-held : goal.returns-clause-held
returns-clause-held c = let same : c.args.words.now.size ≡ c.args.seat.now.seat.me.0.size = sym c.requires.fits.1 in let told = c.load-word.ensures.2.1 c.bucket-head.result (c.head_place-top.ensures.place ∙ ap (λ (y : Size). head_at y c.bucket-head.result) same) in
    let v : View = c.args.seat.now.seat.me.0 in let u : View = c.load-word.new.seat.me.0 in let w : View = c.walk_chain.new.seat.me.0 in let h : ℕ = c.bucket-head.result in let x : ℕ = c.load-word.result in let unclosed : closed_of x ≡ 0 = (let ne = c.if-word-eq1.false in omega arith) in
    let row : c.text_row-row.result ≡ spelled c.args.text.now = c.text_row-row.ensures ∙ ap row_of (c.as_bytes.ensures.value ∙ c.as_str.ensures) in
    walks_held c.text_row-row.result h x v u w (told.0 unclosed) unclosed c.args.words.now.size.slots c.walk_chain.result c.walk_chain.ensures.steps c.walk_chain.ensures.last ∙ ap (λ (l : List ℕ). Rattle.bucket_rows.specs.Walks.held_after l v c.walk_chain.result) row

pub returns-clause-refused : goal.returns-clause-refused
returns-clause-refused c = let same : c.args.words.now.size ≡ c.args.seat.now.seat.me.0.size = sym c.requires.fits.1 in let told = c.load-word.ensures.2.1 c.bucket-head.result (c.head_place-top.ensures.place ∙ ap (λ (y : Size). head_at y c.bucket-head.result) same) in
    let v : View = c.args.seat.now.seat.me.0 in let u : View = c.load-word.new.seat.me.0 in let w : View = c.walk_chain.new.seat.me.0 in let h : ℕ = c.bucket-head.result in let x : ℕ = c.load-word.result in let unclosed : closed_of x ≡ 0 = (let ne = c.if-word-eq1.false in omega arith) in
    walks_refused c.text_row-row.result h x v u w (told.0 unclosed) unclosed c.walk_chain.result c.walk_chain.ensures.steps

pub returns-clause-last : goal.returns-clause-last
returns-clause-last c = let same : c.args.words.now.size ≡ c.args.seat.now.seat.me.0.size = sym c.requires.fits.1 in let told = c.load-word.ensures.2.1 c.bucket-head.result (c.head_place-top.ensures.place ∙ ap (λ (y : Size). head_at y c.bucket-head.result) same) in
    let v : View = c.args.seat.now.seat.me.0 in let u : View = c.load-word.new.seat.me.0 in let w : View = c.walk_chain.new.seat.me.0 in let h : ℕ = c.bucket-head.result in let x : ℕ = c.load-word.result in let unclosed : closed_of x ≡ 0 = (let ne = c.if-word-eq1.false in omega arith) in
    let row : c.text_row-row.result ≡ spelled c.args.text.now = c.text_row-row.ensures ∙ ap row_of (c.as_bytes.ensures.value ∙ c.as_str.ensures) in
    let head : h ≡ bucket c.args.row_size (spelled c.args.text.now) = c.bucket-head.ensures.bucket ∙ ap (λ (l : List ℕ). bucket c.args.row_size (row_of l)) (c.as_bytes-2.ensures.value ∙ c.as_str-2.ensures) in
    let P : List ℕ × ℕ → Type 0 = λ p. Rattle.std.proofs.Common.IfOk c.walk_chain.result (λ o. Rattle.std.proofs.Common.MatchOption o (Missing p.0 p.1 w) (λ a. (a < c.args.words.now.size.slots) × Rattle.atom_words.specs.Plays.Alone v a p.0)) in
    subst P (λ i. (row i, head i)) (walks_last c.text_row-row.result h x v u w (told.0 unclosed) unclosed c.args.words.now.size.slots c.walk_chain.result c.walk_chain.ensures.last)

pub walk_chain-requires-clause-row : goal.walk_chain-requires-clause-row
walk_chain-requires-clause-row c = let bs : List ℕ = c.as_bytes.result.now in let short : length bs ≤ 248 = subst (λ (l : List ℕ). length l ≤ 248) (sym (c.as_bytes.ensures.value ∙ c.as_str.ensures)) c.requires.short in subst IsTextRow (sym c.text_row-row.ensures) (text_row_is bs short)
