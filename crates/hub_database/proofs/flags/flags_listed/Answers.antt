use Rattle.std.proofs.Common.{[], ◌∷◌, sym, subst}
use Rattle.std.specs.Prelude.{codes}
use Rattle.pl_model.specs.Flags.{listed_flags, quotes_text, unknown_text}
use Rattle.clause_db.specs.Flags.{flags_as, unknown_as}
use Rattle.hub_database.specs.Flags.{IsFlags}
use Rattle.hub_database.proofs.FlagRows.{bounded_fixed, max_fixed, min_fixed, quotes_fixed, rounding_fixed, toward_fixed, true_fixed, unknown_fixed}
use Rattle.hub_database.proofs.flags.flags_listed.Goals as goal

pub returns : goal.returns
returns c =
    let all : IsFlags (listed_flags (flags_as c.args.flags)) (c.in_ok-bounded.bounded ∷ c.in_ok-quotes.quotes ∷ c.in_ok-rounding.rounding ∷ c.in_ok-greatest.greatest ∷ c.in_ok-least.least ∷ c.in_ok-unknown.unknown ∷ []) = (
      c.in_ok-bounded.ensures (codes "bounded") (codes "true") bounded_fixed true_fixed,
      (
        c.in_ok-quotes.ensures (codes "double_quotes") (quotes_text c.args.flags.double_quotes) quotes_fixed c.quotes_atom.ensures,
        (
          c.in_ok-rounding.ensures (codes "integer_rounding_function") (codes "toward_zero") rounding_fixed toward_fixed,
          (
            c.in_ok-greatest.ensures (codes "max_integer") max_fixed,
            (
              c.in_ok-least.ensures (codes "min_integer") min_fixed,
              (
                c.in_ok-unknown.ensures (codes "unknown") (unknown_text (unknown_as c.args.flags.unknown)) unknown_fixed c.unknown_atom.ensures,
                tt,
              ),
            ),
          ),
        ),
      ),
    ) in
    subst (IsFlags (listed_flags (flags_as c.args.flags))) (sym c.in_ok-vec.ensures.items) all
