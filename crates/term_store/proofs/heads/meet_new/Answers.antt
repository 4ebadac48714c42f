use Rattle.std.proofs.Common.{◌≡◌, ◌≤◌, ◌++◌, ◌∷◌, [], length, length-append, sym, ap, subst, ◌∙◌, arith}
use Rattle.term_store.specs.Cells.{heap_of}
use Rattle.term_store.specs.Entering.{Joined, value}
use Rattle.term_store.proofs.Entering.{joined_first, prepared}
use Rattle.term_store.proofs.Extending.{extends_longer}
use Rattle.term_store.proofs.heads.meet_new.Goals as goal

pub returns-in_err-make_known-clause-extends : goal.returns-in_err-make_known-clause-extends
returns-in_err-make_known-clause-extends c = extends_longer (heap_of c.args.cells.now) (heap_of c.make_known.new.cells) c.make_known.ensures.longer

pub deref-at-requires-clause-inside : goal.deref-at-requires-clause-inside
deref-at-requires-clause-inside c = c.in_ok-make_known.ensures.meets.inside c.args.word c.requires.word

pub returns-in_err-push-clause-extends : goal.returns-in_err-push-clause-extends
returns-in_err-push-clause-extends c = extends_longer (heap_of c.args.cells.now) (heap_of c.make_known.new.cells) c.make_known.ensures.longer

pub returns-clause-extends : goal.returns-clause-extends
returns-clause-extends c = extends_longer (heap_of c.args.cells.now) (heap_of c.make_known.new.cells) c.make_known.ensures.longer

pub returns-clause-joined : goal.returns-clause-joined
returns-clause-joined c =
    let h = heap_of c.args.cells.now in
    let d = heap_of c.make_known.new.cells in
    let ks = c.args.known.now.items in
    let more = c.make_known.new.known.items in
    let k = c.in_ok-make_known.ensures in
    let from = c.args.from in
    let x = c.args.variable in
    let new = c.requires.new in
    let enough = k.enough in
    let few : length more ≤ x = k.few x (omega arith) new in
    let here : x ≡ length more = omega arith in
    let at = c.deref-at.result in
    subst (λ after. Joined h from ks c.args.word (value h from ks x) d after) (sym c.in_ok-push.ensures.items)
    (prepared h from ks c.args.word (value h from ks x) d more at (value d from more x) d (more ++ at ∷ []) k.meets
    (c.deref-at.ensures.means ∙ k.meets.binds c.args.word c.requires.word) (k.meets.values x)
    (joined_first d from more at x c.make_known.ensures.fit.fit k.known c.deref-at.ensures.inside here))

pub returns-clause-few : goal.returns-clause-few
returns-clause-few c n below most =
    let more = c.make_known.new.known.items in
    let few : length more ≤ c.args.variable = c.in_ok-make_known.ensures.few c.args.variable (omega arith) c.requires.new in
    omega (arith, ap length c.in_ok-push.ensures.items, length-append more (c.deref-at.result ∷ []))
