-- Bodies are converted step by step.
use Rattle.std.proofs.Common.{◌≡◌, ◌≢◌, ℕ, Bool, true, false, cond, ◌==◌, ◌||◌, List, [], ◌∷◌, ◌++◌, length, get_or, map, reverse, Option, Some, None, codes, refl, sym, ap, ap₂, subst, ◌∙◌}
use Rattle.std.specs.List.{All}
use Rattle.std.proofs.lemmas.List.{reverse-append}
use Rattle.std.proofs.lemmas.List.Elements.{All-weaker}
use Rattle.pl_term.specs.Tree.{Chars, Tree, Trees, var, atom, comp, none, more, trees, compound}
use Rattle.pl_model.specs.BodyChecks.{converted, both_goals}
use Rattle.pl_model.specs.BodyChecks.{is_transparent as is_open}
use Rattle.term_store.specs.declared.words.Place.{Place}
use Rattle.term_store.specs.Heap.{atom_name}
use Rattle.term_store.specs.Contents.{Contents, Holds, Adds, Makes, numbers_of, term_at}
use Rattle.iso_search.specs.declared.bodies.Step.{Step}
use Rattle.iso_search.specs.declared.bodies.Step.TheVariants.{Visit, Join}
use Rattle.iso_search.specs.Reading.{View, IsView, reads}
use Rattle.iso_search.specs.Spelling.{spelled, text_of}
use Rattle.iso_search.specs.Conversions.{Converts, Grows, Stays, IsConverted, IsStepIn, Joins, Visits, Part, visit, join, with_goal, finish, part, parts, goals_made}
use Rattle.iso_search.proofs.Constructing.{shape_two}
use Rattle.iso_search.proofs.Listing.{All-reverse, map-agree}
use Rattle.iso_search.proofs.Naming.{is_named, text_is, call_is, comma_is, semicolon_is, then_is}

-- A store that grows

pub grows_none : (s t : Contents) → t ≡ s → Grows s t
grows_none s t e =
    subst (Grows s) (sym e) (record {
      stays =
          record {
            others = λ p h. refl;
            adds = record { places = λ p h. h; marks = λ m h. h; back = λ m h. refl };
            used = refl;
            budget = refl;
          };
      numbers = refl;
    })

pub grows_made : (s t : Contents) (term : Tree) (p : Place) → Makes s term t p → numbers_of t ≡ numbers_of s → Adds s t → Grows s t
grows_made s t term p m n a = record { stays = record { others = m.others; adds = a; used = m.used; budget = m.budget }; numbers = n }

pub stays_again : (s t u : Contents) → Stays s t → Stays t u → Stays s u
stays_again s t u g h =
    record {
      others = λ p held. h.others p (g.adds.places p held) ∙ g.others p held;
      adds =
          record {
            places = λ p held. h.adds.places p (g.adds.places p held);
            marks = λ m mark. h.adds.marks m (g.adds.marks m mark);
            back = λ m mark. h.adds.back m (g.adds.marks m mark) ∙ g.adds.back m mark;
          };
      used = h.used ∙ g.used;
      budget = h.budget ∙ g.budget;
    }

pub grows_again : (s t u : Contents) → Grows s t → Grows t u → Grows s u
grows_again s t u g h = record { stays = stays_again s t u g.stays h.stays; numbers = h.numbers ∙ g.numbers }

step_grown : (s t : Contents) → Grows s t → (x : Step) → IsStepIn s x → IsStepIn t x
step_grown s t g (Visit p) h = g.stays.adds.places p h
step_grown s t g (Join a) h = tt

pub steps_grown : (s t : Contents) → Grows s t → (xs : List Step) → All (IsStepIn s) xs → All (IsStepIn t) xs
steps_grown s t g xs h = All-weaker (IsStepIn s) (IsStepIn t) (step_grown s t g) xs h

pub goals_grown : (s t : Contents) → Grows s t → (ps : List Place) → All (Holds s) ps → All (Holds t) ps
goals_grown s t g ps h = All-weaker (Holds s) (Holds t) g.stays.adds.places ps h

-- What is on the stacks

pub parts-push : (v : View) (s : Contents) (xs : List Step) (x : Step) → parts v s (xs ++ x ∷ []) ≡ part v s x ∷ parts v s xs
parts-push v s xs x = ap (map (part v s)) (reverse-append xs (x ∷ []))

pub goals-push : (v : View) (s : Contents) (ps : List Place) (p : Place) → goals_made v s (ps ++ p ∷ []) ≡ more (reads v s p) (goals_made v s ps)
goals-push v s ps p = ap (λ l. trees (map (reads v s) l)) (reverse-append ps (p ∷ []))

part_kept : (v : View) (s t : Contents) → Grows s t → (x : Step) → IsStepIn s x → part v t x ≡ part v s x
part_kept v s t g (Visit p) h = ap (λ u. visit (spelled (text_of v.names) u)) (g.stays.others p h)
part_kept v s t g (Join a) h = refl

pub parts_kept : (v : View) (s t : Contents) → Grows s t → (xs : List Step) → All (IsStepIn s) xs → parts v t xs ≡ parts v s xs
parts_kept v s t g xs h = map-agree (IsStepIn s) (part v t) (part v s) (part_kept v s t g) (reverse xs) (All-reverse (IsStepIn s) xs h)

pub goals_kept : (v : View) (s t : Contents) → Grows s t → (ps : List Place) → All (Holds s) ps → goals_made v t ps ≡ goals_made v s ps
goals_kept v s t g ps h =
    ap trees (map-agree (Holds s) (reads v t) (reads v s) (λ p held. ap (spelled (text_of v.names)) (g.stays.others p held)) (reverse ps) (All-reverse (Holds s) ps h))

-- A goal is put after the others

pub goal_pushed : (v : View) (s t : Contents) (body q : Place) (xs : List Step) (ps qs : List Place) → Grows s t → All (IsStepIn s) xs → All (Holds s) ps
    → qs ≡ ps ++ q ∷ [] → converted (reads v s body) ≡ Some (reads v t q)
    → finish (parts v t xs) (goals_made v t qs) ≡ finish (visit (reads v s body) ∷ parts v s xs) (goals_made v s ps)
goal_pushed v s t body q xs ps qs g steps goals e is =
    ap₂ finish (parts_kept v s t g xs steps)
    (ap (goals_made v t) e ∙ goals-push v t ps q ∙ ap (more (reads v t q)) (goals_kept v s t g ps goals))
    ∙ sym (ap (λ o. with_goal o (λ u. finish (parts v s xs) (more u (goals_made v s ps)))) is)

pub refused : (v : View) (s : Contents) (body : Place) (xs : List Step) (ps : List Place) → converted (reads v s body) ≡ None
    → finish (visit (reads v s body) ∷ parts v s xs) (goals_made v s ps) ≡ None
refused v s body xs ps is = ap (λ o. with_goal o (λ u. finish (parts v s xs) (more u (goals_made v s ps)))) is

pub as_it_is : (v : View) (s : Contents) (body : Place) (x : Tree) → term_at s body ≡ x
    → converted (spelled (text_of v.names) x) ≡ Some (spelled (text_of v.names) x) → converted (reads v s body) ≡ Some (reads v s body)
as_it_is v s body x e h = ap (λ u. converted (spelled (text_of v.names) u)) e ∙ h ∙ sym (ap (λ u. Some (spelled (text_of v.names) u)) e)

pub variable_called : (v : View) → IsView v → (s t : Contents) (body q : Place) (n : ℕ) → term_at s body ≡ var n
    → Makes s (compound (atom_name 53) (map (term_at s) (body ∷ []))) t q → converted (reads v s body) ≡ Some (reads v t q)
variable_called v view s t body q n e m =
    let g = text_of v.names in
    ap (λ u. converted (spelled g u)) e
    ∙ ap (λ f. Some (comp f (var n) none)) (sym (text_is v view 53 (codes "call") call_is))
    ∙ ap (λ u. Some (comp (g (atom_name 53)) (spelled g u) none)) (sym e)
    ∙ sym (ap (λ u. Some (spelled g u)) m.means)

-- Compound terms

or_same : (a b c x y z : Bool) → x ≡ a → y ≡ b → z ≡ c → (x || (y || z)) ≡ (a || (b || c))
or_same a b c x y z p q r = ap₂ (λ m n. m || n) p (ap₂ (λ m n. m || n) q r)

pub open_by_number : (v : View) → IsView v → (a : ℕ) → is_open (text_of v.names (atom_name a)) ≡ (a == 4 || (a == 13 || a == 7))
open_by_number v view a =
    or_same (a == 4) (a == 13) (a == 7) _ _ _
    (is_named v view a 4 (codes ",") comma_is) (is_named v view a 13 (codes ";") semicolon_is) (is_named v view a 7 (codes "->") then_is)

pub closed_by_name : (g : Chars → Chars) (f : Chars) (ys : List Tree) → is_open (g f) ≡ false
    → converted (spelled g (compound f ys)) ≡ Some (spelled g (compound f ys))
closed_by_name g f [] differ = refl
closed_by_name g f (y ∷ []) differ = refl
closed_by_name g f (y ∷ (z ∷ [])) differ =
    ap (λ b. cond b (both_goals (g f) (converted (spelled g y)) (converted (spelled g z))) (Some (comp (g f) (spelled g y) (more (spelled g z) none)))) differ
closed_by_name g f (y ∷ (z ∷ (w ∷ ws))) differ = refl

pub closed_by_count : (g : Chars → Chars) (f : Chars) (ys : List Tree) → length ys ≢ 2
    → converted (spelled g (compound f ys)) ≡ Some (spelled g (compound f ys))
closed_by_count g f [] differ = refl
closed_by_count g f (y ∷ []) differ = refl
closed_by_count g f (y ∷ (z ∷ [])) differ = absurd (differ refl)
closed_by_count g f (y ∷ (z ∷ (w ∷ ws))) differ = refl

opened : (f : Chars) (a b : Tree) (ps : List Part) (ts : Trees) → is_open f ≡ true
    → finish (visit a ∷ (visit b ∷ (join f ∷ ps))) ts ≡ finish (visit (comp f a (more b none)) ∷ ps) ts
opened f a b ps ts e =
    go (converted a) (converted b)
    ∙ sym (ap (λ q. with_goal (cond q (both_goals f (converted a) (converted b)) (Some (comp f a (more b none)))) (λ u. finish ps (more u ts))) e)
  where
    go : (x y : Option Tree) → with_goal x (λ u. with_goal y (λ w. finish (join f ∷ ps) (more w (more u ts))))
        ≡ with_goal (both_goals f x y) (λ u. finish ps (more u ts))
    go (Some x) (Some y) = refl
    go (Some x) None = refl
    go None (Some y) = refl
    go None None = refl

pub both_opened : (v : View) (s : Contents) (body first second : Place) (name : ℕ) (ys : List Tree) (xs zs : List Step) (ps : List Place)
    → term_at s body ≡ compound (atom_name name) ys → length ys ≡ 2 → term_at s first ≡ get_or ys 0 (atom []) → term_at s second ≡ get_or ys 1 (atom [])
    → is_open (text_of v.names (atom_name name)) ≡ true
    → zs ≡ ((xs ++ Join name ∷ []) ++ Visit second ∷ []) ++ Visit first ∷ []
    → Visits v s body xs ps zs ps
both_opened v s body first second name ys xs zs ps stands long at_first at_second is e =
    let g = text_of v.names in
    let whole : reads v s body ≡ comp (g (atom_name name)) (reads v s first) (more (reads v s second) none) =
    ap (spelled g) (stands ∙ ap (compound (atom_name name)) (shape_two ys (atom []) long))
    ∙ ap₂ (λ y z. comp (g (atom_name name)) (spelled g y) (more (spelled g z) none)) (sym at_first) (sym at_second) in
    let steps : parts v s zs ≡ visit (reads v s first) ∷ (visit (reads v s second) ∷ (join (g (atom_name name)) ∷ parts v s xs)) =
    ap (parts v s) e
    ∙ parts-push v s ((xs ++ Join name ∷ []) ++ Visit second ∷ []) (Visit first)
    ∙ ap (λ l. visit (reads v s first) ∷ l)
    (parts-push v s (xs ++ Join name ∷ []) (Visit second) ∙ ap (λ l. visit (reads v s second) ∷ l) (parts-push v s xs (Join name))) in
    ap (λ l. finish l (goals_made v s ps)) steps
    ∙ opened (g (atom_name name)) (reads v s first) (reads v s second) (parts v s xs) (goals_made v s ps) is
    ∙ ap (λ u. finish (visit u ∷ parts v s xs) (goals_made v s ps)) (sym whole)

-- Two goals are joined

pub both_joined : (v : View) (s t : Contents) (name : ℕ) (first second q : Place) (xs : List Part) (ps qs rs : List Place) → Grows s t
    → All (Holds s) rs → ps ≡ (rs ++ first ∷ []) ++ second ∷ [] → qs ≡ rs ++ q ∷ []
    → Makes s (compound (atom_name name) (map (term_at s) (first ∷ (second ∷ [])))) t q → Joins true v s name xs ps t qs
both_joined v s t name first second q xs ps qs rs g held before after m =
    let n = text_of v.names in
    let made : reads v t q ≡ comp (n (atom_name name)) (reads v s first) (more (reads v s second) none) = ap (spelled n) m.means in
    ap (finish xs) (ap (goals_made v t) after ∙ goals-push v t rs q ∙ ap₂ more made (goals_kept v s t g rs held))
    ∙ sym (ap (finish (join (n (atom_name name)) ∷ xs))
    (ap (goals_made v s) before ∙ goals-push v s (rs ++ first ∷ []) second ∙ ap (more (reads v s second)) (goals-push v s rs first)))

pub none_to_join : (v : View) (s t : Contents) (name : ℕ) (xs : List Part) (ps qs : List Place) → ps ≡ [] → Joins false v s name xs ps t qs
none_to_join v s t name xs ps qs e = ap (λ l. finish (join (text_of v.names (atom_name name)) ∷ xs) (goals_made v s l)) e

pub one_to_join : (v : View) (s t : Contents) (name : ℕ) (xs : List Part) (second : Place) (ps qs rs : List Place) → ps ≡ rs ++ second ∷ [] → rs ≡ []
    → Joins false v s name xs ps t qs
one_to_join v s t name xs second ps qs rs e none_left =
    ap (λ l. finish (join (text_of v.names (atom_name name)) ∷ xs) (goals_made v s l)) (e ∙ ap (λ l. l ++ second ∷ []) none_left)

-- The whole

with_itself : (o : Option Tree) → with_goal o (λ u. Some u) ≡ o
with_itself None = refl
with_itself (Some u) = refl

pub at_first : (v : View) (s : Contents) (body : Place) (xs : List Step) (ps : List Place) → xs ≡ Visit body ∷ [] → ps ≡ []
    → finish (parts v s xs) (goals_made v s ps) ≡ converted (reads v s body)
at_first v s body xs ps e f = ap₂ (λ l k. finish (parts v s l) (goals_made v s k)) e f ∙ with_itself (converted (reads v s body))

pub at_last : (v : View) (s t : Contents) (body q : Place) (xs : List Step) (ps qs : List Place) → xs ≡ [] → ps ≡ qs ++ q ∷ []
    → finish (parts v t xs) (goals_made v t ps) ≡ converted (reads v s body) → IsConverted v s body t (Some q)
at_last v s t body q xs ps qs e f is =
    sym (sym (ap₂ (λ l k. finish (parts v t l) k) e (ap (goals_made v t) f ∙ goals-push v t qs q)) ∙ is)

pub at_no_goal : (v : View) (s t : Contents) (body : Place) (xs : List Step) (ps : List Place) → xs ≡ [] → ps ≡ []
    → finish (parts v t xs) (goals_made v t ps) ≡ converted (reads v s body) → IsConverted v s body t None
at_no_goal v s t body xs ps e f is = sym (sym (ap₂ (λ l k. finish (parts v t l) (goals_made v t k)) e f) ∙ is)

-- A step of the loop

pub joined_converts : (b : Bool) (v : View) (s t : Contents) (name : ℕ) (step : Step) (xs : List Step) (ps qs : List Place) → Grows s t → All (IsStepIn s) xs
    → step ≡ Join name → ((ws : List Part) → Joins b v s name ws ps t qs) → Converts b v s step xs ps t xs qs
joined_converts true v s t name step xs ps qs g steps is joins =
    joins (parts v t xs)
    ∙ ap (λ l. finish (join (text_of v.names (atom_name name)) ∷ l) (goals_made v s ps)) (parts_kept v s t g xs steps)
    ∙ ap (λ y. finish (part v s y ∷ parts v s xs) (goals_made v s ps)) (sym is)
joined_converts false v s t name step xs ps qs g steps is joins =
    ap (λ y. finish (part v s y ∷ parts v s xs) (goals_made v s ps)) is ∙ joins (parts v s xs)

pub taken_off : (v : View) (s : Contents) (r : Option Tree) (step : Step) (xs ys : List Step) (ps : List Place) → xs ≡ ys ++ step ∷ []
    → finish (parts v s xs) (goals_made v s ps) ≡ r → finish (part v s step ∷ parts v s ys) (goals_made v s ps) ≡ r
taken_off v s r step xs ys ps e is = sym (ap (λ l. finish l (goals_made v s ps)) (ap (parts v s) e ∙ parts-push v s ys step)) ∙ is
