-- The load that shows that a seat and the counts that it carries agree keeps the rule of the table.
use Rattle.std.proofs.Common.{◌≡◌, ◌≢◌, ℕ, ◌+◌, ◌<◌, ◌≤◌, false, List, refl, sym, ap, ◌∙◌, subst, arith, Some}
use mathlib.Core.Logic.{dite}
use native.Mathlib.Decide.{dec_le}
use mathlib.Core.Option.{none, some}
use lib.ListN.{get_elem?}
use Rattle.std.specs.Prelude.{length}
use Rattle.atomic_table.specs.Table.{step, Allows}
use Rattle.atom_words.specs.Board.{Board, text_of}
use Rattle.atom_words.specs.Views.{uncounted}
use Rattle.atom_words.specs.Kinds.{counted}
use Rattle.atom_words.specs.Rule.{Rule}
use Rattle.atom_words.specs.Kept.{Kept, HeldOk, SeatOk}
use Rattle.atom_words.specs.declared.size.Size.{Size}
use Rattle.atom_words.specs.declared.view.Counted.{Counted}
use Rattle.atom_words.specs.declared.view.View.{View}
use Rattle.atom_words.specs.declared.kind.Kind.TheVariants.{Load}
use Rattle.atom_words.proofs.Slices.{or_at, or_beyond}
use Rattle.atom_words.proofs.AtomSteps.{alone_at}
use Rattle.atom_words.proofs.Adapters.{Sat, epoch_load}
use Rattle.counted_terms.specs.Keeping.{Agrees, agreed}

-- a slot that is counted is one that has a count
pub counted_low : (cs : List Counted) (k : ℕ) → 0 < (counted cs k).count → k < length cs
counted_low cs k some_ = dite (dec_le (length cs) k)
    (λ (out : length cs ≤ k). absurd (let no : (counted cs k).count ≡ 0 = ap (λ (c : Counted). c.count) (or_beyond cs k uncounted out) in omega arith))
    (λ (inside : ¬ (length cs ≤ k)). omega arith)

module _ (key : Size) (slots id : ℕ) (me : Sat) (is : key ≡ me.0.size) (here : me.0.gone ≡ false) where
  agrees_at : (b : Board) (vs : List View) → Kept me.0.size b vs → get_elem? vs id ≡ some me.0 → (cs : List Counted) → me.0.counts ≡ Some cs → Agrees me.0 cs
  agrees_at b vs r seen cs e = record {
    alone = λ k some_. let h = live k some_ in let valid = h.valid in alone_at me.0.size b vs r id me.0 s k (counted cs k).text h.linked (λ two. omega arith) h.text;
    unlike = λ j k x y same. let h = live j x in let i = live k y in let texts : text_of b.texts j ≡ text_of b.texts k = h.text ∙ (same ∙ sym i.text) in let l = h.linked in let m = i.linked in
        r.rows.unlike l.0 m.0 j k l.1 m.1 l.2 m.2 (stays j h) (stays k i) texts;
  }
    where
      s : SeatOk me.0.size b r.plan id me.0
      s = r.seats id me.0 seen here

      live : (k : ℕ) → 0 < (counted cs k).count → HeldOk me.0.size b.atoms b.texts r.plan.chain (record { slot = k; text = (counted cs k).text })
      live k some_ = (s.counts cs e).live k (counted cs k) (or_at cs k uncounted (counted_low cs k some_)) some_

      stays : (k : ℕ) → HeldOk me.0.size b.atoms b.texts r.plan.chain (record { slot = k; text = (counted cs k).text }) → k + 1 ≢ r.plan.fate.slot
      stays k h dying = let two = r.slots.dies k (sym dying) in let valid = h.valid in omega arith

  pub agreeing : Allows (Rule key) slots id me 0 (λ n. n) (agreed (step slots 0 0 0 none) me)
  agreeing = epoch_load key me.0.size slots id me (agreed (step slots 0 0 0 none) me) is here (λ b vs r seen small. (Load 0 b.epoch, (refl, refl), ((refl, refl), agrees_at b vs r seen)))
