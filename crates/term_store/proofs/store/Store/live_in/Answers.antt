use Rattle.std.proofs.Common.{◌++◌, flat_map, subst}
use Rattle.term_store.specs.Cells.{heap_of}
use Rattle.term_store.specs.Live.{Gathers, cell_atoms, head_atoms, word_atoms}
use Rattle.term_store.proofs.Gathering.{gathers_both}
use Rattle.term_store.proofs.Naming.{spelled_alike}
use Rattle.term_store.proofs.store.Store.live_in.Goals as goal

pub returns-in_err-list_heads-clause-read : goal.returns-in_err-list_heads-clause-read
returns-in_err-list_heads-clause-read c f g p same = spelled_alike f g same.empty c.args.self.now.heap p.word same.alike

pub returns-in_err-list_words-clause-read : goal.returns-in_err-list_words-clause-read
returns-in_err-list_words-clause-read c f g p same = spelled_alike f g same.empty c.args.self.now.heap p.word same.alike

pub returns-in_err-list_bonds-clause-read : goal.returns-in_err-list_bonds-clause-read
returns-in_err-list_bonds-clause-read c f g p same = spelled_alike f g same.empty c.args.self.now.heap p.word same.alike

pub returns-clause-read : goal.returns-clause-read
returns-clause-read c f g p same = spelled_alike f g same.empty c.args.self.now.heap p.word same.alike

pub returns-clause-gathers : goal.returns-clause-gathers
returns-clause-gathers c =
    let h = heap_of c.self.inside.cells in
    let heads = flat_map head_atoms h.heads in
    let words = flat_map word_atoms h.args in
    let bonds = flat_map (λ b. word_atoms b.word) h.trail in
    let named : Gathers heads c.args.live.now c.list_heads.new.live =
    subst (λ gs. Gathers (flat_map head_atoms gs) c.args.live.now c.list_heads.new.live) c.deref.ensures.value c.in_ok-list_heads.ensures in
    let argued : Gathers words c.list_heads.new.live c.list_words.new.live =
    c.in_ok-list_words.ensures in
    let bound : Gathers bonds c.list_words.new.live c.list_bonds.new.live =
    c.in_ok-list_bonds.ensures in
    subst (λ s. Gathers (cell_atoms s) c.args.live.now c.list_bonds.new.live) c.self.view_is
    (gathers_both heads (words ++ bonds) c.args.live.now c.list_heads.new.live c.list_bonds.new.live named
    (gathers_both words bonds c.list_heads.new.live c.list_words.new.live c.list_bonds.new.live argued bound))
