use Rattle.std.proofs.Common.{◌<◌, ℕ, [], ◌∷◌, refl, sym, ap, ◌∙◌, subst, option_map}
use Rattle.std.specs.Option.{IsSome}
use Rattle.atom_words.specs.Kinds.{once_more}
use Rattle.atom_words.specs.Seats.{seen}
use Rattle.atom_words.specs.declared.view.View.{View}
use Rattle.atom_table.specs.Naming.{names}
use Rattle.atom_table.proofs.Naming.{held_text}
use Rattle.counted_terms.specs.Keeping.{Registered, times_in}
use Rattle.counted_terms.proofs.OneMaps.{counts_of}
use Rattle.counted_terms.proofs.Recounting.{more_agrees, more_once}
use Rattle.counted_terms.proofs.naming.register.Goals as goal

pub register-requires-clause-sits : goal.register-requires-clause-sits
register-requires-clause-sits c = c.requires.joins.sits

pub register-requires-clause-held : goal.register-requires-clause-held
register-requires-clause-held c = let p = held_text (seen c.args.seat.now) c.args.a c.requires.held in (p.1, p.2, p.3)

pub register-requires-clause-room : goal.register-requires-clause-room
register-requires-clause-room c = let q = counts_of c.args.table.now.words c.args.seat.now c.requires.joins in (q.0, q.1, subst (λ o. times_in o c.args.a < 2305843009213693951) q.1 c.requires.room)

pub returns-clause-joins : goal.returns-clause-joins
returns-clause-joins c = let v : View = seen c.args.seat.now in let w : View = seen c.register.new.seat in let j = c.requires.joins in let p = held_text v c.args.a c.requires.held in let e = c.register.ensures.steps p.1 p.2 p.3 in let q = counts_of c.args.table.now.words c.args.seat.now j in record {
  sits = c.register.ensures.sits;
  fixed = ap (λ (y : View). y.fixed) e ∙ j.fixed;
  counts = subst (λ o. IsSome o) (sym (ap (λ (y : View). y.counts) e ∙ ap (option_map (once_more p.1)) q.1)) refl;
  agrees = more_agrees v w q.0 p.1 p.0 q.1 q.2 j.sits.2 p.2 p.4 (ap (names v) p.3 ∙ p.5) e;
}

pub returns-clause-registered : goal.returns-clause-registered
returns-clause-registered c = let v : View = seen c.args.seat.now in let w : View = seen c.register.new.seat in let j = c.requires.joins in let p = held_text v c.args.a c.requires.held in let e = c.register.ensures.steps p.1 p.2 p.3 in let q = counts_of c.args.table.now.words c.args.seat.now j in
    subst (λ (i : ℕ). Registered (i ∷ []) v w) p.3 (more_once v w q.0 p.1 p.0 q.1 q.2 j.sits.2 p.2 p.4 (ap (names v) p.3 ∙ p.5) e)
