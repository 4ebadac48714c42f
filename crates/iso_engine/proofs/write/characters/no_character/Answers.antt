use Rattle.iso_engine.proofs.Putting.{ball_made, ball_read, grows_again}
use Rattle.iso_engine.proofs.write.characters.no_character.Goals as goal

pub pair-requires-clause-first : goal.pair-requires-clause-first
pair-requires-clause-first c = (c.atom.ensures c.args.store.now).0

pub pair-requires-3-clause-first : goal.pair-requires-3-clause-first
pair-requires-3-clause-first c = c.in_ok-indicator.ensures.grows.stays.adds.places c.in_ok-error.error c.in_ok-error.ensures.inside

pub returns-clause-grows : goal.returns-clause-grows
returns-clause-grows c =
    let s = c.args.store.now in
    let t = c.pair.new.store in
    let u = c.pair-2.new.store in
    grows_again s u c.pair-3.new.store (grows_again s t u c.in_ok-error.ensures.grows c.in_ok-indicator.ensures.grows) c.in_ok-ball.ensures.grows

pub returns-clause-ball : goal.returns-clause-ball
returns-clause-ball c v view =
    let s = c.args.store.now in
    let t = c.pair.new.store in
    let u = c.pair-2.new.store in
    let w = c.pair-3.new.store in
    let error = c.in_ok-error.error in
    ball_read v view s w c.args.term c.in_ok-ball.ball
    (ball_made s t u w c.args.term c.atom.result c.atom-name.result c.integer.result error c.in_ok-indicator.indicator c.in_ok-ball.ball
    (c.atom.ensures s).1 (c.atom-name.ensures t).1 (c.integer.ensures t).1 c.in_ok-error.ensures.means
    (c.in_ok-indicator.ensures.grows.stays.others error c.in_ok-error.ensures.inside) c.in_ok-indicator.ensures.means c.in_ok-ball.ensures.means)
