use Rattle.std.proofs.Common.{◌≡◌, ◌<◌, ◌≤◌, ℕ, true, List, refl, sym, ap, ◌∙◌, subst}
use Rattle.std.specs.Str.{all_scalars}
use Rattle.pl_term.specs.Tree.{Chars}
use Rattle.pl_term.specs.Texts.{size}
use Rattle.atom_words.specs.Kinds.{after}
use Rattle.atom_words.specs.declared.size.Size.{Size}
use Rattle.atom_words.specs.declared.view.View.{View}
use Rattle.atom_words.proofs.Tied.{same_owns, same_walks, same_passes}
use Rattle.bucket_rows.specs.Walks.{spelled}
use Rattle.atom_table.specs.Holding.{unspelled, Spelled, loads}
use Rattle.atom_table.proofs.Loading.{loads_keep}
use Rattle.atom_table.proofs.Telling.{sound_same}
use Rattle.atom_table.proofs.table.AtomTable.text.Goals as goal

pub read_row-row-requires-clause-slot : goal.read_row-row-requires-clause-slot
read_row-row-requires-clause-slot c = let h = c.requires.held in subst (λ (k : ℕ). k < c.args.self.now.words.size.slots) (h.2 ∙ sym c.slot.ensures) (subst (λ (z : Size). h.0.slot < z.slots) c.requires.sits.0.1 (c.requires.sits.2.inside h.0 h.1))

pub read_row-row-requires-clause-held : goal.read_row-row-requires-clause-held
read_row-row-requires-clause-held c = let h = c.requires.held in (h.0, h.1, h.2 ∙ sym c.slot.ensures, c.requires.sits.2.texts h.0 h.1)

pub invariant_of-seat : goal.invariant_of-seat
invariant_of-seat c = let s = c.args.seat.now in let v : View = s.seat.me.0 in let w : View = c.read_row-row.new.seat.me.0 in let z : Size = c.args.self.now.words.size in let k : ℕ = c.slot.result in let xs : List ℕ = c.read_row-row.ensures.steps.0 in let is : w ≡ after v (loads z k 0 xs) = c.read_row-row.ensures.steps.1 in
    let size : w.size ≡ v.size = ap (λ (y : View). y.size) is ∙ loads_keep (λ (y : View). y.size) (λ _ _ _. refl) v z k 0 xs in record {
      slotless = c.read_row-row.ensures.same.2 ∙ s.slotless;
      numbered = ap (λ (y : View). y.cycle.engine) is ∙ (loads_keep (λ (y : View). y.cycle.engine) (λ _ _ _. refl) v z k 0 xs ∙ s.numbered);
      acknowledged = ap (λ (y : View). y.cycle.acked) is ∙ (loads_keep (λ (y : View). y.cycle.acked) (λ _ _ _. refl) v z k 0 xs ∙ s.acknowledged);
      owns = same_owns v w s.own (ap (λ (y : View). y.own) is ∙ loads_keep (λ (y : View). y.own) (λ _ _ _. refl) v z k 0 xs) size s.owns;
      walks = same_walks v w s.head s.word (ap (λ (y : View). y.walk) is ∙ loads_keep (λ (y : View). y.walk) (λ _ _ _. refl) v z k 0 xs) size s.walks;
      passes = same_passes v w s.began s.first s.counted (ap (λ (y : View). y.pass) is ∙ loads_keep (λ (y : View). y.pass) (λ _ _ _. refl) v z k 0 xs) s.passes;
    }

pub spell-requires : goal.spell-requires
spell-requires c = let h = c.requires.held in let t = c.requires.sits.2.texts h.0 h.1 in
    subst Spelled (sym (c.read_row-row.ensures.words h.0 h.1 (h.2 ∙ sym c.slot.ensures) t)) t

pub returns-clause-sits : goal.returns-clause-sits
returns-clause-sits c = let v : View = c.args.seat.now.seat.me.0 in let w : View = c.read_row-row.new.seat.me.0 in let z : Size = c.args.self.now.words.size in let k : ℕ = c.slot.result in let xs : List ℕ = c.read_row-row.ensures.steps.0 in let is : w ≡ after v (loads z k 0 xs) = c.read_row-row.ensures.steps.1 in
    let size : w.size ≡ v.size = ap (λ (y : View). y.size) is ∙ loads_keep (λ (y : View). y.size) (λ _ _ _. refl) v z k 0 xs in (
      (c.read_row-row.ensures.same.0 ∙ c.requires.sits.0.0, size ∙ c.requires.sits.0.1, ap (λ (y : View). y.gone) is ∙ (loads_keep (λ (y : View). y.gone) (λ _ _ _. refl) v z k 0 xs ∙ c.requires.sits.0.2)),
      ap (λ (y : View). y.own) is ∙ (loads_keep (λ (y : View). y.own) (λ _ _ _. refl) v z k 0 xs ∙ c.requires.sits.1),
      sound_same v w (ap (λ (y : View). y.held) is ∙ loads_keep (λ (y : View). y.held) (λ _ _ _. refl) v z k 0 xs) (ap (λ (y : View). y.fixed) is ∙ loads_keep (λ (y : View). y.fixed) (λ _ _ _. refl) v z k 0 xs)
          (ap (λ (y : View). y.counts) is ∙ loads_keep (λ (y : View). y.counts) (λ _ _ _. refl) v z k 0 xs) size c.requires.sits.2,
    )

pub returns-clause-text : goal.returns-clause-text
returns-clause-text c = λ h ours at. let t = c.requires.sits.2.texts h ours in
    let row : c.read_row-row.result ≡ h.text = c.read_row-row.ensures.words h ours (at ∙ sym c.slot.ensures) t in
    let same = sym (c.spell.ensures (unspelled h.text) t.0 t.1 (row ∙ t.2)) in (subst (λ (x : Chars). size x ≤ 248) same t.0, subst (λ (x : Chars). all_scalars x ≡ true) same t.1, t.2 ∙ ap spelled same)
