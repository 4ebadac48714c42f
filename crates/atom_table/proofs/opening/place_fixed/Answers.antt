use Rattle.std.proofs.Common.{ℕ, List, ap, ◌∙◌, Ok, Option}
use Rattle.atom_words.specs.Seats.{seen}
use Rattle.atom_words.specs.declared.view.View.{View}
use Rattle.bucket_rows.specs.Walks.{spelled, held_after}
use Rattle.bucket_rows.proofs.Reading.{walking_as}
use Rattle.atom_table.specs.Opening.{Placed}
use Rattle.atom_table.proofs.Settling.{placed_walked, ok_map}
use Rattle.atom_table.proofs.opening.place_fixed.Goals as goal

pub returns-in-None-clause-placed : goal.returns-in-None-clause-placed
returns-in-None-clause-placed c = let row : List ℕ = spelled c.args.text.now in let v : View = seen c.args.seat.now in let u : View = seen c.walk.new.seat in let w : View = seen c.take_fixed.new.seat in
    ok_map (λ _. Placed row c.args.slot u w) (λ _. Placed row c.args.slot v w) c.take_fixed.result
    (λ _ p. placed_walked row c.args.slot v u w c.walk.ensures.aside (c.in-Ok.ensures.held ∙ ap (λ (o : Option ℕ). held_after row v (Ok o)) c.in-None.is) p) c.take_fixed.ensures.placed

pub take_fixed-requires-clause-sitting : goal.take_fixed-requires-clause-sitting
take_fixed-requires-clause-sitting c = (walking_as (seen c.args.seat.now) (seen c.walk.new.seat) c.walk.ensures.aside c.requires.walking).0
