use Rattle.std.proofs.Common.{◌≡◌, ◌<◌, ◌≤◌, ℕ, Bool, false, List, length, get_or, sym, ap, ◌∙◌, arith}
use Rattle.std.proofs.Math.Path.{fun_ext}
use Rattle.std.specs.Prelude.{◌==◌}
use Rattle.std.specs.List.{list_any}
use Rattle.atom_api.specs.Names.{Names}
use Rattle.atom_api.specs.Slots.{names_of}
use Rattle.atom_api.specs.declared.slots.Slots.{Slots}
use Rattle.atom_api.proofs.SlotNames.{read-at}
use Rattle.atom_api.proofs.Sweeping.{swept_next_marked, swept_next_free, swept_end}
use Rattle.atom_api.proofs.slots.Slots.keep.Goals.{then-not-index, else-not-index}
use Rattle.atom_api.proofs.slots.Slots.keep.Goals as goal

pub loop-slot-preserved : goal.loop-slot-preserved
loop-slot-preserved c =
    let inside : c.loop-slot.slot < length c.loop-slot.self.marks.items =
    omega (arith, c.args.self.now.texts.ok, c.len-slot-end.ensures, c.loop-slot.self.room, c.loop-slot.invariant.slots) in
    let read : get_or c.mark.new.marks.items c.loop-slot.slot false ≡ c.index.result.now =
    ap (λ (ms : List Bool). get_or ms c.loop-slot.slot false) (sym c.loop-slot.invariant.marks) ∙ read-at c.loop-slot.self.marks.items c.loop-slot.slot c.index.result.now false inside c.index.ensures in
    elim c.if-not-index.branch [
      | then-not-index w ↦ record {
        from = omega arith;
        slots = ap (λ (s : Slots). length s.texts.items) w.self-is ∙ w.free.ensures.slots ∙ c.loop-slot.invariant.slots;
        marks = ap (λ (s : Slots). s.marks.items) w.self-is ∙ w.free.ensures.marks ∙ c.loop-slot.invariant.marks;
        names = λ k.
            ap (λ (s : Slots). names_of s.texts.items k) w.self-is
            ∙ ap (λ (m : Names). m k) w.free.ensures.names
            ∙ swept_next_free c.args.from c.loop-slot.slot c.mark.new.marks.items (names_of c.args.self.now.texts.items) c.loop-slot.invariant.from (read ∙ w.if-not-index.true) (names_of c.loop-slot.self.texts.items) c.loop-slot.invariant.names k;
      }
      | else-not-index w ↦ record {
        from = omega arith;
        slots = ap (λ (s : Slots). length s.texts.items) w.self-is ∙ c.loop-slot.invariant.slots;
        marks = ap (λ (s : Slots). s.marks.items) w.self-is ∙ c.loop-slot.invariant.marks;
        names = λ k.
            ap (λ (s : Slots). names_of s.texts.items k) w.self-is
            ∙ c.loop-slot.invariant.names k
            ∙ swept_next_marked c.args.from c.loop-slot.slot c.mark.new.marks.items (names_of c.args.self.now.texts.items) (read ∙ w.if-not-index.false) k;
      }
    ]

pub returns : goal.returns
returns c =
    let past : length c.args.self.now.texts.items ≤ c.loop-slot.slot = omega (arith, c.args.self.now.texts.ok, c.len-slot-end.ensures) in
    let room : length c.args.self.now.texts.items ≤ length c.clear.new.marks.items = omega (arith, c.args.self.now.room, c.clear.ensures.len) in
    let marked : (k : ℕ) → k < length c.args.self.now.texts.items → get_or c.mark.new.marks.items k false ≡ list_any (λ a. a == k) c.args.live.now =
    λ k l. c.mark.ensures.marked k (omega arith) in
    fun_ext (λ k. c.loop-slot.invariant.names k ∙ swept_end c.args.from c.loop-slot.slot c.mark.new.marks.items c.args.self.now.texts.items c.args.live.now past marked k)
