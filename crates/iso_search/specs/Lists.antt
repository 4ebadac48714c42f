-- Lists as they stand in a store (ISO 6.3.5). The fixed atom 8 is the name of a list's cell, and 30 the empty list.
use Rattle.std.specs.Prelude.{◌≡◌, Bool, List, [], ◌∷◌}
use Rattle.pl_term.specs.Tree.{Tree, atom, comp, none, more}
use Rattle.pl_model.specs.Terms.{is_list_or_partial}
use Rattle.atom_api.specs.FixedNames.{list_cell_name, nil_name}
use Rattle.term_store.specs.declared.words.Place.{Place}
use Rattle.term_store.specs.Heap.{atom_name}
use Rattle.term_store.specs.Contents.{Contents, Holds, term_at}
use Rattle.iso_search.specs.declared.lists.Link.{Link}
use Rattle.iso_search.specs.declared.lists.Link.TheVariants.{Ends, Goes}
use Rattle.iso_search.specs.Conversions.{Grows, Stays}
use Rattle.iso_search.specs.Reading.{View, reads}

abbrev pub IsLinkIn : Contents → Link → Type 0
IsLinkIn s (Ends is) = Unit {0}
IsLinkIn s (Goes p) = Holds s p

-- Whether the link leads to a list or a partial list.
abbrev pub link_tells : View → Contents → Link → Bool
link_tells v s (Ends is) = is
link_tells v s (Goes p) = is_list_or_partial (reads v s p)

-- The list of these terms over atoms.
abbrev pub listed : List Tree → Tree
listed [] = atom (atom_name nil_name)
listed (t ∷ ts) = comp (atom_name list_cell_name) t (more (listed ts) none)

-- The list of these terms was made.
pub record IsListed (s : Contents) (ts : List Tree) (t : Contents) (p : Place) : Type 0 where
  pub grows : Grows s t
  pub inside : Holds t p
  pub means : term_at t p ≡ listed ts

-- The list of these terms was made, and variables for them.
pub record IsListBuilt (s : Contents) (ts : List Tree) (t : Contents) (p : Place) : Type 0 where
  pub stays : Stays s t
  pub inside : Holds t p
  pub means : term_at t p ≡ listed ts
