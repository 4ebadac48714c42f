use Rattle.std.proofs.Common.{◌≡◌, ℕ, Bool, true, false, List, get_or, ◌++◌, refl, sym, ap, subst, ◌∙◌}
use Rattle.std.specs.List.{All}
use Rattle.term_store.specs.declared.words.Word.TheVariants.{Comp}
use Rattle.term_store.specs.Cells.{heap_of}
use Rattle.term_store.specs.Fit.{no_head}
use Rattle.term_store.specs.Heap.{words_of}
use Rattle.term_store.specs.Visits.{IsClear}
use Rattle.term_store.proofs.Occurring.{comp_inside, comp_found}
use Rattle.term_store.proofs.Visiting.{again_found, again_clear, opened_clear, added_clear}
use Rattle.term_store.proofs.Marked.{marked_clear, marked_found}
use Rattle.term_store.proofs.Settling.{absent_clear, absent_found, settled_absent}
use Rattle.term_store.proofs.occurs.come_by.Goals as goal

pub returns-then-holds-clause-found : goal.returns-then-holds-clause-found
returns-then-holds-clause-found c x all =
    again_found x (heap_of c.args.cells.now) c.args.walk.now.words.items c.args.k c.args.walk.now.seen.list.items (c.holds.ensures c.if-holds.true) all

pub returns-then-holds-clause-seen : goal.returns-then-holds-clause-seen
returns-then-holds-clause-seen c x all =
    again_clear x (heap_of c.args.cells.now) c.args.walk.now.words.items c.args.k c.args.walk.now.seen.list.items (c.holds.ensures c.if-holds.true) all

pub returns-in_ok-add-clause-others : goal.returns-in_ok-add-clause-others
returns-in_ok-add-clause-others c =
    comp_inside (heap_of c.args.cells.now) c.args.k (Comp c.args.k) c.args.walk.now.words.items c.push_words.new.walk.items c.requires.fit.fit c.requires.inside refl
    c.requires.others c.in_ok-push_words.ensures

pub returns-in_ok-add-clause-found : goal.returns-in_ok-add-clause-found
returns-in_ok-add-clause-found c x _ =
    comp_found (heap_of c.args.cells.now) x c.args.k (Comp c.args.k) c.args.walk.now.words.items c.push_words.new.walk.items c.requires.fit.fit c.requires.inside refl
    c.in_ok-push_words.ensures

pub returns-in_ok-add-clause-seen : goal.returns-in_ok-add-clause-seen
returns-in_ok-add-clause-seen c x all =
    let h = heap_of c.args.cells.now in
    let ws = c.args.walk.now.words.items in
    let ks = c.args.walk.now.seen.list.items in
    let opened = opened_clear x h ws c.args.k ks c.requires.fit.fit c.requires.inside all in
    let added = added_clear x h ws c.args.k ks c.requires.fit.fit c.requires.inside opened in
    subst (λ vs. All (IsClear x h vs) c.add.new.self.list.items) (sym c.in_ok-push_words.ensures)
    (subst (λ js. All (IsClear x h (ws ++ words_of h.args (get_or h.heads c.args.k no_head))) js) (sym c.in_ok-add.ensures) added)

pub returns-else-long-2-clause-others : goal.returns-else-long-2-clause-others
returns-else-long-2-clause-others c =
    comp_inside (heap_of c.args.cells.now) c.args.k (Comp c.args.k) c.args.walk.now.words.items c.push_words.new.walk.items c.requires.fit.fit c.requires.inside refl
    c.requires.others c.in_ok-push_words.ensures

pub returns-else-long-2-clause-found : goal.returns-else-long-2-clause-found
returns-else-long-2-clause-found c x _ =
    comp_found (heap_of c.args.cells.now) x c.args.k (Comp c.args.k) c.args.walk.now.words.items c.push_words.new.walk.items c.requires.fit.fit c.requires.inside refl
    c.in_ok-push_words.ensures

pub returns-else-long-2-clause-seen : goal.returns-else-long-2-clause-seen
returns-else-long-2-clause-seen c x all =
    let h = heap_of c.args.cells.now in
    let ks = c.args.walk.now.seen.list.items in
    subst (λ vs. All (IsClear x h vs) ks) (sym c.in_ok-push_words.ensures)
    (opened_clear x h c.args.walk.now.words.items c.args.k ks c.requires.fit.fit c.requires.inside all)

is_marked : (gs hs : List Bool) (k : ℕ) → hs ≡ gs → get_or hs k false ≡ true → get_or gs k false ≡ true
is_marked gs hs k e t = ap (λ l. get_or l k false) (sym e) ∙ t

pub returns-then-marked_at-clause-found : goal.returns-then-marked_at-clause-found
returns-then-marked_at-clause-found c x _ =
    let fit = c.requires.fit in
    marked_found c.args.cells.now.grounds.items (heap_of c.args.cells.now) fit.fit fit.marks c.args.k (is_marked c.args.cells.now.grounds.items c.deref.result.now c.args.k c.deref.ensures.value (sym c.marked_at.ensures ∙ c.if-marked_at.true)) x
    c.args.walk.now.words.items

pub returns-then-marked_at-clause-seen : goal.returns-then-marked_at-clause-seen
returns-then-marked_at-clause-seen c x all =
    let fit = c.requires.fit in
    marked_clear c.args.cells.now.grounds.items (heap_of c.args.cells.now) fit.fit fit.marks c.args.k (is_marked c.args.cells.now.grounds.items c.deref.result.now c.args.k c.deref.ensures.value (sym c.marked_at.ensures ∙ c.if-marked_at.true)) x
    c.args.walk.now.words.items c.args.walk.now.seen.list.items all

pub returns-then-is_known_ground-clause-found : goal.returns-then-is_known_ground-clause-found
returns-then-is_known_ground-clause-found c x _ =
    let fit = c.requires.fit in
    let h = heap_of c.args.cells.now in
    absent_found h c.args.k (settled_absent c.args.cells.now.settled.list.items h c.args.k fit.settled (c.is_known_ground.ensures c.if-is_known_ground.true)) x
    c.args.walk.now.words.items

pub returns-then-is_known_ground-clause-seen : goal.returns-then-is_known_ground-clause-seen
returns-then-is_known_ground-clause-seen c x all =
    let fit = c.requires.fit in
    let h = heap_of c.args.cells.now in
    absent_clear h c.args.k (settled_absent c.args.cells.now.settled.list.items h c.args.k fit.settled (c.is_known_ground.ensures c.if-is_known_ground.true)) x
    c.args.walk.now.words.items c.args.walk.now.seen.list.items all
