-- The parameters that a procedure lists, and how many they are.
-- Assumes nothing.
use Rattle.callees.specs.declared.Callee.{Callee}
use Rattle.std.proofs.Common.{Option, Some, None, Result, Ok, Err}
use mathlib.Core.Path.{◌≡◌, refl, sym, ap, ◌∙◌}
use mathlib.Core.Bool.{Bool, true, false, not, cond}
use mathlib.Core.List.{List, [], ◌∷◌}
use Prim.Native.Nat.{ℕ, suc, ◌+◌, ◌-◌, ◌<◌, ◌≤◌}
use Prim.Native.String as S
use native.Mathlib.Nat.{zero-add}
use native.Mathlib.Omega.{arith}
use lib.Dec.{leb}
use lib.ListN.{length}
use Rattle.definition.specs.Bytes.{mixed, folded}
use Rattle.definition.specs.Lists.{part}
use Rattle.definition.specs.Text.{bytes_of}
use Rattle.definition.specs.Tokens as T
use Rattle.definition.specs.Tokens.{token_at, is_sign}
use Rattle.definition.specs.Expressions.{Reading, read, refused, Named, name_at, name_of}
use Rattle.definition.specs.Values as Val
use Rattle.definition.specs.Evaluate as E
use Rattle.definition.specs.declared.Why.{Why}
use Rattle.definition.specs.declared.Why.TheVariants.{WrongName, OverLimit}
use Rattle.definition.proofs.Ends.{Past, Lies, token_at_lies, reads_it, name_at_past}
use Rattle.tokens.specs.declared.Lexeme.{Lexeme}
use Rattle.tokens.specs.Answer.{written, Lexed, is_sign_in, kind_of, lexeme_for, content, token_for}
use Rattle.tokens.proofs.Lexemes as L
use Rattle.names.specs.declared.Place.{Place}
use Rattle.rows.specs.Table.{row_in}
use Rattle.rows.specs.Parts.{part_in}
use Rattle.rows.specs.declared.Starts.{Starts}
use Rattle.rows.specs.declared.Row.{Row}
use Rattle.deck.specs.Answer.{body_in}
use Rattle.callees.specs.declared.Parameter.{Parameter}
use Rattle.callees.specs.Shown.{names_world}
use Rattle.callees.specs.Answer.{owner_at, spelled_at, parameter_for, parameter_of, ParameterIs, Listed, Names, called_for, CountedIs, HeadedBy, CalleeIs, CalleeOf}

-- ---- a sign behind a place
pub told : (s : List ℕ) (at : ℕ) (l : Lexeme) (lex : Lexed s at l) (W : S.String) (w : List ℕ) (r b : Bool) → bytes_of W ≡ w → r ≡ is_sign_in s l w → r ≡ b → is_sign W (token_at mixed s at).token ≡ b
told s at l lex W w r b e f g = sym (L.is_sign_lem s at l lex W w e) ∙ sym f ∙ g

module _ (s : List ℕ) (at : ℕ) (l : Lexeme) (lex : Lexed s at l) (c : Lexeme) (y : Lexed s l.to c) (r : Bool) (f : r ≡ is_sign_in s c (44 ∷ [])) where
  comma : (b : Bool) → r ≡ b → is_sign "," (token_at mixed s (token_at mixed s at).to).token ≡ b
  comma b g = rw lex.to at (told s l.to c y "," (44 ∷ []) r b refl f g)

  pub last_is : not r ≡ not (is_sign "," (token_at mixed s (token_at mixed s at).to).token)
  last_is = rw (comma r refl)

-- ---- a name is the bytes of its token
word_spelled : (k : T.Token) (x y w : List ℕ) → k ≡ token_for (kind_of k) x y → k ≡ T.word w → w ≡ folded mixed x
word_spelled (T.word z) x y w e f = let g : z ≡ folded mixed x = cc in let h : z ≡ w = cc in sym h ∙ g
word_spelled (T.integer z) x y w e f = absurd (let z : ◌≡◌ {A = ℕ} 0 1 = cc in omega arith)
word_spelled (T.string z) x y w e f = absurd (let z : ◌≡◌ {A = ℕ} 0 1 = cc in omega arith)
word_spelled (T.bits z) x y w e f = absurd (let z : ◌≡◌ {A = ℕ} 0 1 = cc in omega arith)
word_spelled (T.sign z) x y w e f = absurd (let z : ◌≡◌ {A = ℕ} 0 1 = cc in omega arith)
word_spelled T.nothing x y w e f = absurd (let z : ◌≡◌ {A = ℕ} 0 1 = cc in omega arith)
word_spelled T.wrong x y w e f = absurd (let z : ◌≡◌ {A = ℕ} 0 1 = cc in omega arith)

pub record IsNamed (s : List ℕ) (at : ℕ) (n : Named) : Type 0 where
  pub spelling : n.spelling ≡ spelled_at s at
  pub to : n.to ≡ (token_at mixed s at).to

lexed_it : (s : List ℕ) (at : ℕ) → Lexed s at (lexeme_for (token_at mixed s at))
lexed_it s at = record { kind = refl; from = refl; to = refl }

never : {A : Type 0} (w : Why) (p : ℕ) (n : Named) → ◌≡◌ {A = Reading Named} (refused w p) (read n) → A
never w p n e = absurd (let z : ◌≡◌ {A = ℕ} 0 1 = cc in omega arith)

true_false : {A : Type 0} → true ≡ false → A
true_false e = absurd (let z : ◌≡◌ {A = ℕ} 0 1 = cc in omega arith)

module _ (s : List ℕ) (at : ℕ) (n : Named) where
  sp : (w : List ℕ) → (token_at mixed s at).token ≡ T.word w → w ≡ spelled_at s at
  unfolding written
  sp w f = word_spelled (token_at mixed s at).token (part ((token_at mixed s at).to - (token_at mixed s at).from) (token_at mixed s at).from s) (content s (token_at mixed s at).from) w (L.token_is s at (lexeme_for (token_at mixed s at)) (lexed_it s at)) f

  worded : (b : Bool) (w : List ℕ) → (token_at mixed s at).token ≡ T.word w → ◌≡◌ {A = Reading Named} (cond b (read (record { spelling = w; place = (token_at mixed s at).from; to = (token_at mixed s at).to })) (refused OverLimit (token_at mixed s at).from)) (read n) → IsNamed s at n
  worded true w f g = let h : record { spelling = w; place = (token_at mixed s at).from; to = (token_at mixed s at).to } ≡ n = cc in record { spelling = sym (ap (λ (x : Named). x.spelling) h) ∙ sp w f; to = sym (ap (λ (x : Named). x.to) h) }
  worded false w f g = never OverLimit (token_at mixed s at).from n g

  named_by : (k : T.Token) → (token_at mixed s at).token ≡ k → name_of k (token_at mixed s at).from (token_at mixed s at).to ≡ read n → IsNamed s at n
  named_by (T.word w) f g = worded (leb (length w) 31) w f g
  named_by (T.integer w) f g = never _ _ n g
  named_by (T.string w) f g = never _ _ n g
  named_by (T.bits w) f g = never _ _ n g
  named_by (T.sign w) f g = never _ _ n g
  named_by T.nothing f g = never _ _ n g
  named_by T.wrong f g = never _ _ n g

  pub name_is : name_at mixed s at ≡ read n → IsNamed s at n
  unfolding name_at
  name_is e = named_by (token_at mixed s at).token refl e

-- ---- a list of names is no longer than the source
pub listed_short : (s : List ℕ) (ns : List (List ℕ)) (at : ℕ) → Listed s ns at → at ≤ length s → at + length ns ≤ length s
listed_short s [] at k h = absurd k
listed_short s (l ∷ []) at (n, e, f, g) h = let p : Past s at n.to = reads_it (name_at_past s at h) e in omega (arith, p.above, p.within)
listed_short s (l ∷ m ∷ ns) at (n, e, f, g, k) h =
    let p : Past s at n.to = reads_it (name_at_past s at h) e in
    let q : Lies s n.to (token_at mixed s n.to) = token_at_lies s n.to p.within in
    omega (arith, p.above, q.low, q.order, listed_short s (m ∷ ns) (token_at mixed s n.to).to k q.high)

-- ---- counting
abbrev pub called_past : Place → ℕ → ℕ → Val.Answer (List E.Parameter) → Result Callee Why
called_past p list n (Val.gives ps) = Ok (record { place = p; list = list; count = n + length ps })
called_past p list n (Val.fails e) = Err e

module _ (d s t : List ℕ) (c : ℕ) (p : Place) (list : ℕ) where
  abbrev asked : List (List ℕ) → Val.Answer (List E.Parameter)
  asked ns = E.parameters (owner_at p) ns (names_world d t c)

  pub record Rest (ns : List (List ℕ)) (n at : ℕ) : Type 0 where
    pub rest : List (List ℕ)
    pub listed : Listed s rest at
    pub within : at ≤ length s
    pub total : n + length rest ≡ length ns
    pub same : called_past p list n (asked rest) ≡ called_for p list (asked ns)

  pub record Counting (n at : ℕ) : Type 0 where
    pub low : n ≤ length s
    pub is : (ns : List (List ℕ)) → Listed s ns list → list ≤ length s → Rest ns n at

  past_zero : (x : Val.Answer (List E.Parameter)) → called_past p list 0 x ≡ called_for p list x
  unfolding called_for
  past_zero (Val.gives ps) = rw zero-add
  past_zero (Val.fails e) = refl

  pub counting_start : Counting 0 list
  counting_start = record { low = omega arith; is = λ ns l h. record { rest = ns; listed = l; within = h; total = rw zero-add; same = past_zero (asked ns) } }

  asked_wrong : (l : List ℕ) (ns : List (List ℕ)) → parameter_of d t c p l ≡ Val.fails WrongName → asked (l ∷ ns) ≡ Val.fails WrongName
  unfolding E.parameters
  asked_wrong l ns e = rw e

  asked_some : (l : List ℕ) (ns : List (List ℕ)) (y : E.Parameter) → parameter_of d t c p l ≡ Val.gives y → asked (l ∷ ns) ≡ Val.and_then (asked ns) (λ ps. Val.gives (y ∷ ps))
  unfolding E.parameters
  asked_some l ns y e = rw e

  asked_one : (l : List ℕ) (y : E.Parameter) → parameter_of d t c p l ≡ Val.gives y → asked (l ∷ []) ≡ Val.gives (y ∷ [])
  unfolding E.parameters
  asked_one l y e = rw e

  past_more : (n : ℕ) (y : E.Parameter) (x : Val.Answer (List E.Parameter)) → called_past p list n (Val.and_then x (λ ps. Val.gives (y ∷ ps))) ≡ called_past p list (n + 1) x
  past_more n y (Val.gives ps) = let e : n + suc (length ps) ≡ n + 1 + length ps = omega arith in rw e
  past_more n y (Val.fails e) = refl

  module _ (n at : ℕ) (x : Option Parameter) (q : ParameterIs d s t c p at x) where
    -- of the first name, what the code found and what is asked
    first_is : (l : List ℕ) (m : Named) → name_at mixed s at ≡ read m → m.spelling ≡ l → parameter_of d t c p l ≡ parameter_for x
    first_is l m e f = rw (← f, (name_is s at m e).spelling) (sym q.is)

    wrong_by : (f : x ≡ None) (ms : List (List ℕ)) → Listed s ms at → called_past p list n (asked ms) ≡ Err WrongName
    wrong_by f [] k = absurd k
    wrong_by f (l ∷ []) (m, e, g, h) = ap (called_past p list n) (asked_wrong l [] (first_is l m e g ∙ rw f))
    wrong_by f (l ∷ o ∷ os) (m, e, g, h, k) = ap (called_past p list n) (asked_wrong l (o ∷ os) (first_is l m e g ∙ rw f))

    pub counting_wrong : Counting n at → x ≡ None → CountedIs d s t c p list (Err WrongName)
    counting_wrong k f = record { is = λ ns l h. let r : Rest ns n at = k.is ns l h in sym (wrong_by f r.rest r.listed) ∙ r.same }

    module _ (y : Parameter) (f : x ≡ Some y) (b : Bool) (g : b ≡ not (is_sign "," (token_at mixed s (token_at mixed s at).to).token)) where
      abbrev found : E.Parameter
      found = record { at = y.address; type = y.value_type }

      abbrev behind : ℕ
      behind = (token_at mixed s (token_at mixed s at).to).to

      y_to : y.to ≡ behind
      y_to = let h : Some y ≡ Some (record { address = y.address; value_type = y.value_type; to = behind }) = rw f at q.to in let i : y ≡ record { address = y.address; value_type = y.value_type; to = behind } = cc in ap (λ (z : Parameter). z.to) i

      sign_is : (m : Named) (v : Bool) → name_at mixed s at ≡ read m → is_sign "," (token_at mixed s m.to).token ≡ v → b ≡ not v
      sign_is m v e h = g ∙ ap not (rw (name_is s at m e).to at h)

      last_by_lem : b ≡ true → (ms : List (List ℕ)) → Listed s ms at → called_past p list n (asked ms) ≡ Ok (record { place = p; list = list; count = n + 1 })
      last_by_lem h [] k = absurd k
      last_by_lem h (l ∷ []) (m, e, i, j) = ap (called_past p list n) (asked_one l found (first_is l m e i ∙ rw f))
      last_by_lem h (l ∷ o ∷ os) (m, e, i, j, k) = true_false (sym h ∙ sign_is m true e j)

      pub counting_last : Counting n at → b ≡ true → CountedIs d s t c p list (Ok (record { place = p; list = list; count = n + 1 }))
      counting_last k h = record { is = λ ns l i. let r : Rest ns n at = k.is ns l i in sym (last_by_lem h r.rest r.listed) ∙ r.same }

      more_by : b ≡ false → (ns ms : List (List ℕ)) → Listed s ms at → at ≤ length s → n + length ms ≡ length ns → called_past p list n (asked ms) ≡ called_for p list (asked ns) → Rest ns (n + 1) y.to
      more_by h ns [] k w v u = absurd k
      more_by h ns (l ∷ []) (m, e, i, j) w v u = true_false (sym (sym h ∙ sign_is m false e j))
      more_by h ns (l ∷ o ∷ os) (m, e, i, j, k) w v u =
          let pa : Past s at m.to = reads_it (name_at_past s at w) e in
          let li : Lies s m.to (token_at mixed s m.to) = token_at_lies s m.to pa.within in
          let mt : m.to ≡ (token_at mixed s at).to = (name_is s at m e).to in
          record {
            rest = o ∷ os;
            listed = rw y_to (rw mt at k);
            within = let hi : (token_at mixed s m.to).to ≤ length s = li.high in rw y_to (rw mt at hi);
            total = omega (arith, v);
            same = sym (past_more n found (asked (o ∷ os))) ∙ ap (called_past p list n) (sym (asked_some l (o ∷ os) found (first_is l m e i ∙ rw f))) ∙ u;
          }

      pub counting_more : Counting n at → n < length s → b ≡ false → Counting (n + 1) y.to
      counting_more k o h = record { low = omega arith; is = λ ns l i. let r : Rest ns n at = k.is ns l i in more_by h ns r.rest r.listed r.within r.total r.same }

  some_listed : (ms : List (List ℕ)) (q : ℕ) → Listed s ms q → 1 ≤ length ms
  some_listed [] q k = absurd k
  some_listed (l ∷ ms) q k = omega arith

  pub counting_end : (n at : ℕ) → Counting n at → length s ≤ n → CountedIs d s t c p list (Err WrongName)
  counting_end n at k h = record { is = λ ns l i. let r : Rest ns n at = k.is ns l i in absurd (omega (arith, h, r.total, some_listed r.rest at r.listed, listed_short s ns list l i)) }

-- ---- the callee of a body
module _ (d rows : List ℕ) (starts : Starts) (t : List ℕ) (n : ℕ) (b : Option Place) where
  pub callee_none : ((p : Place) → b ≡ Some p → ⊥) → CalleeOf d rows starts t n b (Err WrongName)
  callee_none h = record { none = λ f. refl; some = λ p f. absurd (h p f) }

  module _ (p : Place) (e : b ≡ Some p) (s : List ℕ) (f : s ≡ body_in d p.member) (own : List ℕ) (u : own ≡ part_in rows starts p.member) (x : Row) (g : x ≡ row_in own p.row) (l : Lexeme) (lex : Lexed s x.content l) (v : Bool) (h : v ≡ is_sign_in s l (40 ∷ [])) where
    open_is : (o : Bool) → v ≡ o → is_sign "(" (token_at mixed s x.content).token ≡ o
    open_is o i = told s x.content l lex "(" (40 ∷ []) v o refl h i

    bodied_by : (r : Result Callee Why) → CalleeIs d s t n p x.content r → CalleeOf d rows starts t n b r
    bodied_by r c = record {
      none = λ i. absurd (let z : ◌≡◌ {A = ℕ} 0 1 = cc in omega arith);
      some = λ q i. let j : p ≡ q = cc in rw (← j, ← u, ← g, ← f) c;
    }

    some_by : (r : Result Callee Why) → CountedIs d s t n p l.to r → (o : Bool) → is_sign "(" (token_at mixed s x.content).token ≡ o → o ≡ true → (list : ℕ) (ns : List (List ℕ)) → list ≡ cond o (token_at mixed s x.content).to (token_at mixed s x.content).from → HeadedBy o s ns list → x.content ≤ length s → r ≡ called_for p list (E.parameters (owner_at p) ns (names_world d t n))
    some_by r c false i j list ns y k w = true_false (sym j)
    some_by r c true i j list ns y k w =
        let z : list ≡ l.to = y ∙ sym lex.to in
        rw z (c.is ns (rw z at k) (rw lex.to (token_at_lies s x.content w).high))

    pub callee_some : v ≡ true → (r : Result Callee Why) → CountedIs d s t n p l.to r → CalleeOf d rows starts t n b r
    callee_some i r c = bodied_by r record { is = λ list ns k w. some_by r c (is_sign "(" (token_at mixed s x.content).token) refl (open_is true i) list ns k.place k.names w }

    plain_by : (o : Bool) → o ≡ false → (list : ℕ) (ns : List (List ℕ)) → list ≡ cond o (token_at mixed s x.content).to (token_at mixed s x.content).from → HeadedBy o s ns list → Ok (record { place = p; list = l.from; count = 0 }) ≡ called_for p list (E.parameters (owner_at p) ns (names_world d t n))
    unfolding called_for E.parameters
    plain_by true j list ns y k = true_false j
    plain_by false j list ns y k = rw (k, y, lex.from)

    pub callee_plain : v ≡ false → CalleeOf d rows starts t n b (Ok (record { place = p; list = l.from; count = 0 }))
    callee_plain i = bodied_by (Ok (record { place = p; list = l.from; count = 0 })) record { is = λ list ns k w. plain_by (is_sign "(" (token_at mixed s x.content).token) (open_is false i) list ns k.place k.names }

-- ---- the first of a list, and the others
pub record First (s : List ℕ) (l : List ℕ) (ns : List (List ℕ)) (at : ℕ) : Type 0 where
  pub spelled : l ≡ spelled_at s at
  pub others : Names s ns (token_at mixed s (token_at mixed s at).to).to

pub first_of : (s l : List ℕ) (ns : List (List ℕ)) (at : ℕ) → Listed s (l ∷ ns) at → First s l ns at
first_of s l [] at (n, e, f, g) = record { spelled = sym f ∙ (name_is s at n e).spelling; others = tt }
first_of s l (m ∷ ns) at (n, e, f, g, k) = record { spelled = sym f ∙ (name_is s at n e).spelling; others = rw (name_is s at n e).to at k }
