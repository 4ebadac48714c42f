-- The sections of threads.
use Rattle.std.proofs.Common.{◌≡◌, ◌++◌, ℕ, Bool, true, false, List, [], ◌∷◌, Option, Some, None, refl, sym, ◌∙◌, ap, ap₂, subst, append_assoc, append-nil}
use Rattle.std.specs.Prelude.{if◌then◌else◌}
use Rattle.std.specs.List.{AllZip}
use Rattle.pl_term.specs.Tree.{Chars, Tree}
use Rattle.run_model.specs.Lawful.{Beginning, Program, Told, beginnings, is_goal_number}
use Rattle.run_model.specs.Report.{Finals, end_in, final_of, of_thread, thread_name, thread_sections}
use Rattle.pl_report.specs.declared.parts.Section.{Section}
use Rattle.run_report.specs.declared.parts.Part.{Part}
use Rattle.run_report.specs.Parts.{AreThreads, IsThread, name_by, threads_in}
use Rattle.run_report.specs.Sections.{AreSections, IsSection}
use Rattle.run_report.proofs.SectionLaws.{sections_more}

-- The texts of these threads.
abbrev pub texts_over : Told → Finals → List Beginning → Chars
texts_over told finals [] = []
texts_over told finals (b ∷ bs) = of_thread b (end_in told.history b.engine) (final_of finals b.engine) ++ texts_over told finals bs

pub threads_texts : (p : Program) (told : Told) (finals : Finals) (bs : List Beginning) → texts_over told finals (threads_in p bs) ≡ thread_sections p told finals bs
threads_texts p told finals [] = refl
threads_texts p told finals (b ∷ bs) = go (threads_texts p told finals bs) (is_goal_number p b.engine) refl
  where
    own : Chars
    own = of_thread b (end_in told.history b.engine) (final_of finals b.engine)

    go : texts_over told finals (threads_in p bs) ≡ thread_sections p told finals bs
        → (t : Bool)
        → is_goal_number p b.engine ≡ t
        → texts_over told finals (threads_in p (b ∷ bs)) ≡ thread_sections p told finals (b ∷ bs)
    go rest true is =
        ap (λ t. texts_over told finals (if t then threads_in p bs else b ∷ threads_in p bs)) is
        ∙ rest
        ∙ sym (ap (λ t. if t then thread_sections p told finals bs else own ++ thread_sections p told finals bs) is)
    go rest false is =
        ap (λ t. texts_over told finals (if t then threads_in p bs else b ∷ threads_in p bs)) is
        ∙ ap (λ (u : Chars). own ++ u) rest
        ∙ sym (ap (λ t. if t then thread_sections p told finals bs else own ++ thread_sections p told finals bs) is)

-- The name of a thread.
named_at : (n : ℕ) (g : Tree) (o : Option Chars) (l : ℕ) → name_by n o ≡ thread_name (record { engine = n; goal = g; alias = o; low = l })
named_at n g None l = refl
named_at n g (Some a) l = refl

pub named_so : (b : Beginning) (n : ℕ) (a : Option Chars) → b.engine ≡ n → b.alias ≡ a → name_by n a ≡ thread_name b
named_so b n a number alias = ap₂ name_by (sym number) (sym alias) ∙ named_at b.engine b.goal b.alias b.low

-- The loop over the threads: these are left.
pub record Left (p : Program) (told : Told) (finals : Finals) (ks : List Part) (ss : List Section) (whole : Chars) : Type 0 where
  pub begun : List Beginning
  pub text : Chars
  pub are : AreSections ss text
  pub rest : text ++ texts_over told finals begun ≡ whole
  pub each : AllZip (IsThread p told finals) begun ks

pub left_all : (p : Program) (told : Told) (finals : Finals) (ks : List Part) (ss : List Section) (t : Chars)
    → AreThreads p told finals (beginnings told.history) ks
    → AreSections ss t
    → Left p told finals ks ss (t ++ thread_sections p told finals (beginnings told.history))
left_all p told finals ks ss t each are =
    record {
      begun = threads_in p (beginnings told.history);
      text = t;
      are = are;
      rest = ap (λ (u : Chars). t ++ u) (threads_texts p told finals (beginnings told.history));
      each = each;
    }

-- One thread, where its section is put.
next_left : (p : Program) (told : Told) (finals : Finals) (bs : List Beginning) (k : Part) (ks : List Part) (old new : List Section) (s : Section) (text whole : Chars)
    → AreSections old text
    → text ++ texts_over told finals bs ≡ whole
    → AllZip (IsThread p told finals) bs (k ∷ ks)
    → ((b : Beginning) → IsThread p told finals b k → IsSection s (of_thread b (end_in told.history b.engine) (final_of finals b.engine)))
    → new ≡ old ++ s ∷ []
    → Left p told finals ks new whole
next_left p told finals [] k ks old new s text whole are rest each is put = absurd each
next_left p told finals (b ∷ bs) k ks old new s text whole are rest each is put =
    let own : Chars = of_thread b (end_in told.history b.engine) (final_of finals b.engine) in
    record {
      begun = bs;
      text = text ++ own;
      are = sections_more old new s text own put are (is b each.0);
      rest = append_assoc text own (texts_over told finals bs) ∙ rest;
      each = each.1;
    }

pub left_more : (p : Program) (told : Told) (finals : Finals) (all : List Part) (k : Part) (ks : List Part) (old new : List Section) (s : Section) (whole : Chars)
    → all ≡ k ∷ ks
    → Left p told finals all old whole
    → ((b : Beginning) → IsThread p told finals b k → IsSection s (of_thread b (end_in told.history b.engine) (final_of finals b.engine)))
    → new ≡ old ++ s ∷ []
    → Left p told finals ks new whole
left_more p told finals all k ks old new s whole at l is put =
    next_left p told finals l.begun k ks old new s l.text whole l.are l.rest (subst (λ (x : List Part). AllZip (IsThread p told finals) l.begun x) at l.each) is put

-- None is left.
none_left : (p : Program) (told : Told) (finals : Finals) (bs : List Beginning) (ss : List Section) (text whole : Chars)
    → AreSections ss text
    → text ++ texts_over told finals bs ≡ whole
    → AllZip (IsThread p told finals) bs []
    → AreSections ss whole
none_left p told finals [] ss text whole are rest each = subst (AreSections ss) (sym (append-nil text) ∙ rest) are
none_left p told finals (b ∷ bs) ss text whole are rest each = absurd each

pub left_none : (p : Program) (told : Told) (finals : Finals) (ks : List Part) (ss : List Section) (whole : Chars)
    → ks ≡ []
    → Left p told finals ks ss whole
    → AreSections ss whole
left_none p told finals ks ss whole none l =
    none_left p told finals l.begun ss l.text whole l.are l.rest (subst (λ (x : List Part). AllZip (IsThread p told finals) l.begun x) none l.each)

-- The section of a thread by what is kept of it.
pub of_kept : (p : Program) (told : Told) (finals : Finals) (b : Beginning) (k : Part) (t : IsThread p told finals b k)
    → of_thread b k.end (Some t.execution) ≡ of_thread b (end_in told.history b.engine) (final_of finals b.engine)
of_kept p told finals b k t =
    ap₂ (of_thread b) (sym t.kept.end) (sym t.kept.final)
    ∙ ap (λ (n : ℕ). of_thread b (end_in told.history n) (final_of finals n)) (sym t.number)
