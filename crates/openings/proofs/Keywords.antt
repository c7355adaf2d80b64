-- What a statement opens is known by the word that it begins with, before it is read, and by what it is.
-- Assumes nothing.
use mathlib.Core.Path.{◌≡◌, refl}
use mathlib.Core.Bool.{Bool, true, false, cond, false≢true}
use mathlib.Core.List.{List, [], ◌∷◌, ◌++◌}
use Prim.Native.Nat.{ℕ, zero, suc}
use Prim.Native.String as Str
use lib.Dec.{ltb}
use lib.ListN.{length}
use Rattle.definition.specs.Bytes.{mixed}
use Rattle.definition.specs.Choice.{when}
use Rattle.definition.specs.Limits.{open_groups}
use Rattle.definition.specs.Tokens as Tk
use Rattle.definition.specs.Tokens.{token_at}
use Rattle.definition.specs.Expressions.{Reading, read, refused, then, Tree, expect_sign, expect_word, Named, name_at, whole_expression}
use Rattle.definition.specs.Deck.{Sought, bare, in_library}
use Rattle.definition.specs.Program as P
use Rattle.definition.specs.Statements as St
use Rattle.definition.specs.Reading as D
use Rattle.definition.specs.declared.ValueType.{ValueType}
use Rattle.definition.specs.declared.ValueType.TheVariants.{FixedType, CharacterType}
use Rattle.definition.specs.declared.Why.TheVariants.{OverLimit}
use Rattle.rows.specs.declared.Statement.{Statement}
use Rattle.rows.specs.declared.Statement.TheVariants as S
use Rattle.rows.specs.Tabled.{kind_of}
use Rattle.statements.specs.declared.Keyword.TheVariants as K
use Rattle.statements.specs.Clauses.{go_clause, do_kind, type_in}
use Rattle.openings.specs.Open.{opens_by, other_at}

-- ---- by what it is
abbrev pub opens_of : P.Statement → St.Opens
opens_of P.null = St.opens_nothing
opens_of (P.declare ns) = St.opens_nothing
opens_of (P.procedure ns t) = St.opens_body
opens_of (P.assign n t) = St.opens_nothing
opens_of (P.conditional t) = St.opens_then
opens_of P.group = St.opens_group
opens_of (P.iterated n t bs) = St.opens_group
opens_of (P.goto n) = St.opens_nothing
opens_of (P.include ns) = St.opens_nothing
opens_of (P.activate ns) = St.opens_nothing
opens_of (P.deactivate ns) = St.opens_nothing
opens_of (P.return t) = St.opens_nothing

pub iterated_opens : (x : P.Statement) → P.is_iterated x ≡ true → opens_of x ≡ St.opens_group
unfolding P.is_iterated
iterated_opens P.null e = absurd (false≢true e)
iterated_opens (P.declare ns) e = absurd (false≢true e)
iterated_opens (P.procedure ns t) e = absurd (false≢true e)
iterated_opens (P.assign n t) e = absurd (false≢true e)
iterated_opens (P.conditional t) e = absurd (false≢true e)
iterated_opens P.group e = absurd (false≢true e)
iterated_opens (P.iterated n t bs) e = refl
iterated_opens (P.goto n) e = absurd (false≢true e)
iterated_opens (P.include ns) e = absurd (false≢true e)
iterated_opens (P.activate ns) e = absurd (false≢true e)
iterated_opens (P.deactivate ns) e = absurd (false≢true e)
iterated_opens (P.return t) e = absurd (false≢true e)

-- only a procedure has a type of its own
abbrev pub NoBody : St.Opens → Type 0
NoBody St.opens_nothing = Unit {0}
NoBody St.opens_group = Unit {0}
NoBody St.opens_body = ⊥
NoBody St.opens_then = Unit {0}

pub type_plain : (x : P.Statement) → NoBody (opens_of x) → FixedType ≡ type_in x
type_plain P.null h = refl
type_plain (P.declare ns) h = refl
type_plain (P.procedure ns t) h = absurd h
type_plain (P.assign n t) h = refl
type_plain (P.conditional t) h = refl
type_plain P.group h = refl
type_plain (P.iterated n t bs) h = refl
type_plain (P.goto n) h = refl
type_plain (P.include ns) h = refl
type_plain (P.activate ns) h = refl
type_plain (P.deactivate ns) h = refl
type_plain (P.return t) h = refl

-- a clause that was read is of the kind k, and opens o
pub record OpensBoth (k : Statement) (o : St.Opens) (c : St.Clause) : Type 0 where
  pub opens : c.opens ≡ o
  pub statement : opens_of c.statement ≡ o
  pub kind : kind_of c.statement ≡ k

abbrev pub OpensSo : Statement → St.Opens → Reading St.Clause → Type 0
OpensSo k o (read c) = OpensBoth k o c
OpensSo k o (refused w p) = Unit {0}

abbrev pub DeclaresSo : Statement → St.Opens → St.Declaring → Type 0
DeclaresSo k o (St.declared c ds) = OpensBoth k o c
DeclaresSo k o (St.undeclared w p ds) = Unit {0}

-- a statement of the kind k that opens o
record Of (k : Statement) (o : St.Opens) (x : P.Statement) : Type 0 where
  opens : opens_of x ≡ o
  kind : kind_of x ≡ k

both : (k : Statement) (o : St.Opens) (x : P.Statement) (to : ℕ) → Of k o x → OpensBoth k o (St.clause x o to)
both k o x to h = record { opens = refl; statement = h.opens; kind = h.kind }

module _ (k : Statement) (o : St.Opens) where
  after : {A : Type 0} (R : Reading A) (F : A → Reading St.Clause) → ((a : A) → OpensSo k o (F a)) → OpensSo k o (then R F)
  after (read a) F h = h a
  after (refused w p) F h = tt

  so_either : (b : Bool) (x y : Unit {0} → Reading St.Clause) → OpensSo k o (x tt) → OpensSo k o (y tt) → OpensSo k o (when b x y)
  so_either true x y f g = f
  so_either false x y f g = g

  declared_after : {A : Type 0} (ds : List P.Declared) (R : Reading A) (F : A → St.Declaring) → ((a : A) → DeclaresSo k o (F a)) → DeclaresSo k o (St.then_declare ds R F)
  declared_after ds (read a) F h = h a
  declared_after ds (refused w p) F h = tt

  declared_either : (b : Bool) (x y : Unit {0} → St.Declaring) → DeclaresSo k o (x tt) → DeclaresSo k o (y tt) → DeclaresSo k o (when b x y)
  declared_either true x y f g = f
  declared_either false x y f g = g

  bound_so : (w : Str.String) (make : Tree → P.Bound) (s : List ℕ) (bs : List P.Bound) (at : ℕ) (found : List P.Bound → ℕ → Reading St.Clause) (absent : Unit {0} → Reading St.Clause)
      → ((cs : List P.Bound) (e : ℕ) → OpensSo k o (found cs e)) → OpensSo k o (absent tt) → OpensSo k o (St.bound_at mixed w make s bs at found absent)
  unfolding St.bound_at
  bound_so w make s bs at found absent f g =
      so_either (Tk.is_word w (token_at mixed s at).token) (λ _. then (whole_expression mixed s (token_at mixed s at).to) λ r. found (bs ++ make r.tree ∷ []) r.to) absent
      (after (whole_expression mixed s (token_at mixed s at).to) (λ r. found (bs ++ make r.tree ∷ []) r.to) (λ r. f (bs ++ make r.tree ∷ []) r.to)) g

  names_so : (z : P.Scope) (m : P.Meaning) (s : List ℕ) (ds : List P.Declared) (n : ℕ) (ns : List Named) (at : ℕ) (f : List Named → ℕ → St.Declaring)
      → ((ms : List Named) (e : ℕ) → DeclaresSo k o (f ms e)) → DeclaresSo k o (St.names_at mixed z m s ds n ns at f)
  unfolding St.names_at
  names_so z m s ds zero ns at f h = tt
  names_so z m s ds (suc n) ns at f h =
      declared_after (ds ++ St.means z m ns) (name_at mixed s at) _ λ x.
      declared_either (Tk.is_sign "," (token_at mixed s x.to).token) (λ _. St.names_at mixed z m s ds n (ns ++ x ∷ []) (token_at mixed s x.to).to f) _
      (names_so z m s ds n (ns ++ x ∷ []) (token_at mixed s x.to).to f h)
      (declared_after (ds ++ St.means z m (ns ++ x ∷ [])) (expect_sign mixed ")" s x.to) (λ e. f (ns ++ x ∷ []) e) (λ e. h (ns ++ x ∷ []) e))

  attribute_so : (z : P.Scope) (t : Tk.Token) (from to : ℕ) (found : P.Meaning → ℕ → St.Declaring) (absent : Unit {0} → St.Declaring)
      → ((m : P.Meaning) (e : ℕ) → DeclaresSo k o (found m e)) → DeclaresSo k o (absent tt) → DeclaresSo k o (St.attribute z t from to found absent)
  unfolding St.attribute
  attribute_so P.global t from to found absent f g =
      declared_either (St.is_character t) (λ _. found (P.variable CharacterType) to) _ (f (P.variable CharacterType) to)
      (declared_either (Tk.is_word "FIXED" t) (λ _. found (P.variable FixedType) to) _ (f (P.variable FixedType) to)
      (declared_either (Tk.is_word "ENTRY" t) (λ _. found P.entry to) absent (f P.entry to) g))
  attribute_so (P.inside r) t from to found absent f g =
      declared_either (St.is_character t) (λ _. found (P.variable CharacterType) to) _ (f (P.variable CharacterType) to)
      (declared_either (Tk.is_word "FIXED" t) (λ _. found (P.variable FixedType) to) _ (f (P.variable FixedType) to)
      (declared_either (Tk.is_word "BUILTIN" t) (λ _. found P.builtin to) absent (f P.builtin to) g))

ended_so : (s : List ℕ) (k : Statement) (x : P.Statement) (at : ℕ) → Of k St.opens_nothing x → OpensSo k St.opens_nothing (St.ended mixed s x at)
unfolding St.ended
ended_so s k x at h = after k St.opens_nothing (expect_sign mixed ";" s at) (λ e. read (St.clause x St.opens_nothing e)) (λ e. both k St.opens_nothing x e h)

pub if_so : (b : Bool) (s : List ℕ) (at : ℕ) → OpensSo S.Conditional (opens_by K.If) (St.if_clause mixed b s at)
unfolding St.if_clause
if_so b s at = after S.Conditional St.opens_then (whole_expression mixed s at) _ λ r. after S.Conditional St.opens_then (St.then_word mixed b s r.to) (λ e. read (St.clause (P.conditional r.tree) St.opens_then e)) (λ e. both S.Conditional St.opens_then (P.conditional r.tree) e (record { opens = refl; kind = refl }))

module _ (s : List ℕ) (make : List P.Bound → P.Statement) (h : (bs : List P.Bound) → Of S.Iterated St.opens_group (make bs)) where
  abbrev last_of : List P.Bound → ℕ → Reading St.Clause
  last_of bs e = then (expect_sign mixed ";" s e) λ q. read (St.clause (make bs) St.opens_group q)

  last_so : (bs : List P.Bound) (e : ℕ) → OpensSo S.Iterated St.opens_group (last_of bs e)
  last_so bs e = after S.Iterated St.opens_group (expect_sign mixed ";" s e) (λ q. read (St.clause (make bs) St.opens_group q)) (λ q. both S.Iterated St.opens_group (make bs) q (h bs))

  bounds_so : (at : ℕ) → OpensSo S.Iterated St.opens_group (St.do_bounds mixed s make at)
  unfolding St.do_bounds
  bounds_so at =
      bound_so S.Iterated St.opens_group "BY" P.by s [] at (λ bs e. St.bound_at mixed "TO" P.upto s bs e last_of (λ _. last_of bs e)) _
      (λ bs e. bound_so S.Iterated St.opens_group "TO" P.upto s bs e last_of (λ _. last_of bs e) last_so (last_so bs e))
      (bound_so S.Iterated St.opens_group "TO" P.upto s [] at (λ bs e. St.bound_at mixed "BY" P.by s bs e last_of (λ _. last_of bs e)) (λ _. last_of [] at)
      (λ bs e. bound_so S.Iterated St.opens_group "BY" P.by s bs e last_of (λ _. last_of bs e) last_so (last_so bs e)) (last_so [] at))

-- DO alone, or an iterated group
group_so : (b : Bool) (to : ℕ) (y : Unit {0} → Reading St.Clause) → OpensSo S.Iterated St.opens_group (y tt) → OpensSo (cond b S.Group S.Iterated) St.opens_group (when b (λ _. read (St.clause P.group St.opens_group to)) y)
group_so true to y h = both S.Group St.opens_group P.group to (record { opens = refl; kind = refl })
group_so false to y h = h

pub do_so : (s : List ℕ) (from to : ℕ) (st : D.State) → OpensSo (do_kind s to) (opens_by K.Do) (D.do_at mixed s from to st)
unfolding D.do_at St.do_clause do_kind
do_so s from to st =
    so_either (do_kind s to) St.opens_group (ltb (D.depth st.opened) open_groups) (λ _. St.do_clause mixed s to) (λ _. refused OverLimit from)
    (group_so (Tk.is_sign ";" (token_at mixed s to).token) (token_at mixed s to).to _
    (after S.Iterated St.opens_group (name_at mixed s to) _ λ n. after S.Iterated St.opens_group (expect_sign mixed "=" s n.to) _ λ e. after S.Iterated St.opens_group (whole_expression mixed s e) _ λ r.
    bounds_so s (P.iterated n.spelling r.tree) (λ bs. record { opens = refl; kind = refl }) r.to)) tt

pub goto_so : (s : List ℕ) (at : ℕ) → OpensSo S.Goto (opens_by K.Goto) (St.goto_clause mixed s at)
unfolding St.goto_clause
goto_so s at = after S.Goto St.opens_nothing (name_at mixed s at) (λ n. St.ended mixed s (P.goto n.spelling) n.to) (λ n. ended_so s S.Goto (P.goto n.spelling) n.to (record { opens = refl; kind = refl }))

pub go_so : (s : List ℕ) (at : ℕ) → OpensSo S.Goto (opens_by K.Go) (go_clause s at)
unfolding go_clause
go_so s at = after S.Goto St.opens_nothing (expect_word mixed "TO" s at) (St.goto_clause mixed s) (goto_so s)

list_so : {A : Type 0} (k : Statement) (each : List ℕ → ℕ → (A → ℕ → Reading St.Clause) → Reading St.Clause) (make : List A → P.Statement) (s : List ℕ)
    → ((at : ℕ) (F : A → ℕ → Reading St.Clause) → ((x : A) (e : ℕ) → OpensSo k St.opens_nothing (F x e)) → OpensSo k St.opens_nothing (each s at F))
    → ((xs : List A) → Of k St.opens_nothing (make xs)) → (f : ℕ) (xs : List A) (at : ℕ) → OpensSo k St.opens_nothing (St.list_of mixed each make s f xs at)
unfolding St.list_of
list_so k each make s h i zero xs at = tt
list_so k each make s h i (suc f) xs at =
    h at _ λ x e.
    so_either k St.opens_nothing (Tk.is_sign "," (token_at mixed s e).token) (λ _. St.list_of mixed each make s f (xs ++ x ∷ []) (token_at mixed s e).to) (λ _. St.ended mixed s (make (xs ++ x ∷ [])) e)
    (list_so k each make s h i f (xs ++ x ∷ []) (token_at mixed s e).to) (ended_so s k (make (xs ++ x ∷ [])) e (i (xs ++ x ∷ [])))

name_so : (k : Statement) (s : List ℕ) (at : ℕ) (F : List ℕ → ℕ → Reading St.Clause) → ((x : List ℕ) (e : ℕ) → OpensSo k St.opens_nothing (F x e)) → OpensSo k St.opens_nothing (St.each_name mixed s at F)
name_so k s at F h = after k St.opens_nothing (name_at mixed s at) (λ n. F n.spelling n.to) (λ n. h n.spelling n.to)

activation_so : (k : Statement) (s : List ℕ) (at : ℕ) (F : P.Activation → ℕ → Reading St.Clause) → ((x : P.Activation) (e : ℕ) → OpensSo k St.opens_nothing (F x e)) → OpensSo k St.opens_nothing (St.each_activation mixed s at F)
activation_so k s at F h =
    after k St.opens_nothing (name_at mixed s at) _ λ n.
    so_either k St.opens_nothing (Tk.is_word "NORESCAN" (token_at mixed s n.to).token) (λ _. F (record { spelling = n.spelling; is_copied = true }) (token_at mixed s n.to).to) _ (h (record { spelling = n.spelling; is_copied = true }) (token_at mixed s n.to).to)
    (so_either k St.opens_nothing (Tk.is_word "RESCAN" (token_at mixed s n.to).token) (λ _. F (record { spelling = n.spelling; is_copied = false }) (token_at mixed s n.to).to) (λ _. F (record { spelling = n.spelling; is_copied = false }) n.to)
    (h (record { spelling = n.spelling; is_copied = false }) (token_at mixed s n.to).to) (h (record { spelling = n.spelling; is_copied = false }) n.to))

member_so : (s : List ℕ) (at : ℕ) (F : Sought → ℕ → Reading St.Clause) → ((x : Sought) (e : ℕ) → OpensSo S.Include St.opens_nothing (F x e)) → OpensSo S.Include St.opens_nothing (St.each_member mixed s at F)
member_so s at F h =
    after S.Include St.opens_nothing (name_at mixed s at) _ λ n.
    so_either S.Include St.opens_nothing (Tk.is_sign "(" (token_at mixed s n.to).token) (λ _. then (name_at mixed s (token_at mixed s n.to).to) λ m. then (expect_sign mixed ")" s m.to) λ e. F (in_library n.spelling m.spelling) e) (λ _. F (bare n.spelling) n.to)
    (after S.Include St.opens_nothing (name_at mixed s (token_at mixed s n.to).to) _ λ m. after S.Include St.opens_nothing (expect_sign mixed ")" s m.to) (λ e. F (in_library n.spelling m.spelling) e) λ e. h (in_library n.spelling m.spelling) e)
    (h (bare n.spelling) n.to)

pub include_so : (s : List ℕ) (at : ℕ) → OpensSo S.Include (opens_by K.Include) (St.include_clause mixed s at)
unfolding St.include_clause
include_so s at = list_so S.Include (St.each_member mixed) P.include s (member_so s) (λ xs. record { opens = refl; kind = refl }) (length s) [] at

pub deactivate_so : (s : List ℕ) (at : ℕ) → OpensSo S.Deactivate (opens_by K.Deactivate) (St.deactivate_clause mixed s at)
unfolding St.deactivate_clause
deactivate_so s at = list_so S.Deactivate (St.each_name mixed) P.deactivate s (name_so S.Deactivate s) (λ xs. record { opens = refl; kind = refl }) (length s) [] at

pub activate_so : (s : List ℕ) (at : ℕ) → OpensSo S.Activate (opens_by K.Activate) (St.activate_clause mixed s at)
unfolding St.activate_clause
activate_so s at = list_so S.Activate (St.each_activation mixed) P.activate s (activation_so S.Activate s) (λ xs. record { opens = refl; kind = refl }) (length s) [] at

pub return_so : (s : List ℕ) (at : ℕ) → OpensSo S.Return (opens_by K.Return) (St.return_clause mixed s at)
unfolding St.return_clause
return_so s at =
    after S.Return St.opens_nothing (expect_sign mixed "(" s at) _ λ e. after S.Return St.opens_nothing (whole_expression mixed s e) _ λ r.
    after S.Return St.opens_nothing (expect_sign mixed ")" s r.to) (λ q. St.ended mixed s (P.return r.tree) q) (λ q. ended_so s S.Return (P.return r.tree) q (record { opens = refl; kind = refl }))

pub other_so : (s w : List ℕ) (u : Tk.Lexeme) → OpensSo S.Assign (opens_by K.Other) (other_at s w u)
unfolding other_at St.assignment
other_so s w u =
    so_either S.Assign St.opens_nothing (Tk.is_sign "=" u.token) (λ _. St.assignment mixed s w u.to) _
    (after S.Assign St.opens_nothing (whole_expression mixed s u.to) (λ r. St.ended mixed s (P.assign w r.tree) r.to) (λ r. ended_so s S.Assign (P.assign w r.tree) r.to (record { opens = refl; kind = refl }))) tt

-- ---- DECLARE and PROCEDURE
next_so : (s : List ℕ) (again : List P.Declared → ℕ → St.Declaring) → ((ds : List P.Declared) (e : ℕ) → DeclaresSo S.Declare St.opens_nothing (again ds e)) → (ds : List P.Declared) (e : ℕ) → DeclaresSo S.Declare St.opens_nothing (St.declare_next mixed s again ds e)
unfolding St.declare_next
next_so s again h ds e =
    declared_either S.Declare St.opens_nothing (Tk.is_sign "," (token_at mixed s e).token) (λ _. again ds (token_at mixed s e).to) _ (h ds (token_at mixed s e).to)
    (declared_after S.Declare St.opens_nothing ds (expect_sign mixed ";" s e) (λ q. St.declared (St.clause (P.declare (St.spellings ds)) St.opens_nothing q) ds) (λ q. both S.Declare St.opens_nothing (P.declare (St.spellings ds)) q (record { opens = refl; kind = refl })))

item_so : (k : P.Scope) (s : List ℕ) (ds : List P.Declared) (ns : List Named) (e : ℕ) (next : List P.Declared → ℕ → St.Declaring) → ((cs : List P.Declared) (q : ℕ) → DeclaresSo S.Declare St.opens_nothing (next cs q)) → DeclaresSo S.Declare St.opens_nothing (St.declare_names mixed k s ds ns e next)
unfolding St.declare_names
item_so k s ds ns e next h =
    attribute_so S.Declare St.opens_nothing k (token_at mixed s e).token (token_at mixed s e).from (token_at mixed s e).to (λ m to. next (ds ++ St.means k m ns) to) _ (λ m to. h (ds ++ St.means k m ns) to) tt

pub declare_so : (k : P.Scope) (s : List ℕ) (f : ℕ) (ds : List P.Declared) (at : ℕ) → DeclaresSo S.Declare (opens_by K.Declare) (St.declare_from mixed k s f ds at)
unfolding St.declare_from
declare_so k s zero ds at = tt
declare_so k s (suc f) ds at =
    declared_either S.Declare St.opens_nothing (Tk.is_sign "(" (token_at mixed s at).token) _ _
    (names_so S.Declare St.opens_nothing k (P.variable FixedType) s ds (length s) [] (token_at mixed s at).to (λ ns e. St.declare_names mixed k s ds ns e (St.declare_next mixed s (St.declare_from mixed k s f)))
    (λ ns e. item_so k s ds ns e (St.declare_next mixed s (St.declare_from mixed k s f)) (next_so s (St.declare_from mixed k s f) (λ cs q. declare_so k s f cs q))))
    (declared_after S.Declare St.opens_nothing ds (name_at mixed s at) (λ n. St.declare_names mixed k s ds (n ∷ []) n.to (St.declare_next mixed s (St.declare_from mixed k s f)))
    (λ n. item_so k s ds (n ∷ []) n.to (St.declare_next mixed s (St.declare_from mixed k s f)) (next_so s (St.declare_from mixed k s f) (λ cs q. declare_so k s f cs q))))

returns_so : (s : List ℕ) (at : ℕ) (f : ValueType → ℕ → St.Declaring) (ds : List P.Declared) → ((t : ValueType) (e : ℕ) → DeclaresSo S.Procedure St.opens_body (f t e)) → DeclaresSo S.Procedure St.opens_body (St.returns_type mixed s at f ds)
unfolding St.returns_type
returns_so s at f ds h =
    declared_after S.Procedure St.opens_body ds (expect_word mixed "RETURNS" s at) _ λ e. declared_after S.Procedure St.opens_body ds (expect_sign mixed "(" s e) _ λ q.
    declared_either S.Procedure St.opens_body (St.is_character (token_at mixed s q).token) (λ _. f CharacterType (token_at mixed s q).to) _ (h CharacterType (token_at mixed s q).to)
    (declared_after S.Procedure St.opens_body ds (expect_word mixed "FIXED" s q) (f FixedType) (h FixedType))

head_so : (k : P.Scope) (s : List ℕ) (ns : List Named) (at : ℕ) → DeclaresSo S.Procedure St.opens_body (St.procedure_head mixed k s ns at)
unfolding St.procedure_head
head_so k s ns at =
    returns_so s at _ (St.means k P.parameter ns) λ t e.
    declared_after S.Procedure St.opens_body (St.means k P.parameter ns) (expect_sign mixed ")" s e) _ λ q.
    declared_after S.Procedure St.opens_body (St.means k P.parameter ns) (expect_sign mixed ";" s q) (λ z. St.declared (St.clause (P.procedure (St.spellings (St.means k P.parameter ns)) t) St.opens_body z) (St.means k P.parameter ns)) (λ z. both S.Procedure St.opens_body (P.procedure (St.spellings (St.means k P.parameter ns)) t) z (record { opens = refl; kind = refl }))

pub procedure_so : (k : P.Scope) (s : List ℕ) (at : ℕ) → DeclaresSo S.Procedure (opens_by K.Procedure) (St.procedure_clause mixed k s at)
unfolding St.procedure_clause
procedure_so k s at =
    declared_either S.Procedure St.opens_body (Tk.is_sign "(" (token_at mixed s at).token) _ _
    (names_so S.Procedure St.opens_body k P.parameter s [] (length s) [] (token_at mixed s at).to (St.procedure_head mixed k s) (head_so k s)) (head_so k s [] at)
