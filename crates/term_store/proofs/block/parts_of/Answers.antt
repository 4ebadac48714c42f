use Rattle.std.proofs.Common.{ap, sym, ◌∙◌}
use Rattle.term_store.specs.declared.words.Word.TheVariants.{Atom}
use Rattle.term_store.proofs.Parting.{counted_parts, named_parts, plain_parts, rule_parts}
use Rattle.term_store.proofs.block.parts_of.Goals.{else-head-slot-via-then-head-slot+else-head-eq2, else-head-slot-via-else-head-slot}
use Rattle.term_store.proofs.block.parts_of.Goals as goal

pub returns-in_default : goal.returns-in_default
returns-in_default c = plain_parts c.args.block.now c.requires (Atom c.slot.result) c.in_default.not-Comp (ap Atom c.slot.ensures)

pub returns-then-head-eq2 : goal.returns-then-head-eq2
returns-then-head-eq2 c =
    rule_parts c.args.block.now c.requires c.in-Comp.k c.block_head-head.result c.in-Comp.is c.block_head-head.ensures c.block_word.result
    c.block_word-then-head-eq2.result (c.if-head-slot.true ∙ c.slot-2.ensures) c.if-head-eq2.true c.block_word.ensures c.block_word-then-head-eq2.ensures

pub returns-else-head-slot : goal.returns-else-head-slot
returns-else-head-slot c =
    let b = c.args.block.now in
    let block = c.requires in
    let k = c.in-Comp.k in
    let g = c.block_head-head.result in
    let is = c.in-Comp.is in
    let at = c.block_head-head.ensures in
    let fact = ap Atom c.slot.ensures in
    let name = c.slot-2.ensures in
    elim c.else-head-slot.branch [
      | else-head-slot-via-then-head-slot+else-head-eq2 w ↦ counted_parts b block k g is at (Atom c.slot.result) w.if-head-eq2.false fact
      | else-head-slot-via-else-head-slot w ↦ named_parts b block k g is at (Atom c.slot.result) (λ e. w.if-head-slot.false (e ∙ sym name)) fact
    ]
