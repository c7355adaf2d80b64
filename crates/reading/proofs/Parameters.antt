-- Parameters that are listed twice. A turn lists those of one procedure, whose row number is new: so what the turns do to the names,
-- each by itself, is what the definition does to them all at once; and the tokens that are spelled alike are the names that are.
-- Assumes nothing.
use Rattle.statements.specs.Types.{Read}
use Rattle.expressions.specs.Types.{Expected}
use Rattle.std.proofs.Common.{Option, Some, None, Err, Ok}
use Prim.Native.Nat.{ℕ, zero, suc, ◌+◌, ◌-◌, ◌≤◌, ◌<◌}
use native.Mathlib.Omega.{arith}
use mathlib.Core.Bool.{Bool, true, false, cond, ◌&&◌, ◌||◌, and-false, false≢true}
use mathlib.Core.List.{List, [], ◌∷◌, ◌++◌, append-nil}
use mathlib.Core.Path.{◌≡◌, refl, sym, ap, subst, ◌∙◌}
use lib.Dec.{leb, eqb}
use lib.ListN.{length, get_or, set}
use borrow.Author.Tests.{le-leb, lt-leb, eqb-true, eqb-false, eq-eqb, ne_eqb}
use Rattle.definition.specs.Bytes.{mixed, folded}
use Rattle.definition.specs.Choice.{when}
use Rattle.definition.specs.Limits.{declared_names}
use Rattle.definition.specs.Lists.{part, same}
use Rattle.definition.specs.Tokens.{Token, word, integer, string, bits, sign, nothing, wrong, is_sign, token_at}
use Rattle.definition.specs.Expressions.{Reading, read, refused, expect_sign, expect_word, Named, name_of, name_at}
use Rattle.definition.specs.Program.{Scope, global, inside, Meaning, variable, entry, body, label, end_label, builtin, parameter, Declared}
use Rattle.definition.specs.Statements as D
use Rattle.definition.specs.Statements.{means}
use Rattle.definition.specs.World as W
use Rattle.definition.specs.Names as N
use Rattle.definition.proofs.Choices.{when_has}
use Rattle.definition.proofs.Folded.{length_folded}
use Rattle.definition.proofs.Parts.{length_part, same_length}
use Rattle.expressions.specs.Check.{is_spelled, named_for}
use Rattle.definition.specs.declared.Why.{Why}
use Rattle.definition.specs.declared.Why.TheVariants.{OverLimit}
use Rattle.entering.specs.declared.Tally.{Tally}
use Rattle.entering.specs.Book.{Book, first_of, book_past, book_second, book_more, book_add, book_joint, book_join, book_at, book_one, book_new, book_all, listed_one, book_listed, book_whole, twice_or, fault_in, book_of}
use Rattle.statements.specs.Clauses.{list_next, list_end, names_end, item_past, name_end, names_next, names_read, spelled_as, names_in, listed_before, parameter_twice, tally_twice, read_procedure, is_read, procedure_tally}
use Rattle.statements.proofs.Items.{after_names, names_at_lem}
use Rattle.statements.proofs.Laws.{sign_spelled}
use Rattle.statements.proofs.Listed.{Names, named_is}
use Rattle.reading.proofs.Places.{token_on, sign_real}

-- ---- parameters belong to procedures at rows from `low` on and before `high`
abbrev pub Within : ℕ → ℕ → Scope → Type 0
Within low high global = ⊥
Within low high (inside r) = (low ≤ r) × (r < high)

pub record Own (low high : ℕ) (d : Declared) : Type 0 where
  pub is : N.is_parameter d.meaning ≡ true → Within low high d.scope

abbrev pub Owned : ℕ → ℕ → List Declared → Type 0
Owned low high [] = Unit {0}
Owned low high (d ∷ ds) = Own low high d × Owned low high ds

-- what a declaration lists
abbrev is_listing : N.New → Bool
is_listing (N.new d) = false
is_listing N.listing = true

listing_is : (m : ℕ) (x : Meaning) → is_listing (N.new_of m x) ≡ N.is_parameter x
listing_is m (variable t) = refl
listing_is m entry = refl
listing_is m (body r) = refl
listing_is m (label r) = refl
listing_is m (end_label r) = refl
listing_is m builtin = refl
listing_is m parameter = refl

abbrev listed_all : ℕ → List Declared → List W.Identifier → List W.Identifier
listed_all m [] ps = ps
listed_all m (d ∷ ds) ps = listed_all m ds (listed_one (N.new_of m d.meaning) (N.identifier_of m d) ps)

whole_append : (m : ℕ) (ps : List W.Identifier) (ds es : List Declared) (b : Book) → book_whole m ps (ds ++ es) b ≡ book_whole m (listed_all m ds ps) es (book_whole m ps ds b)
unfolding book_whole
whole_append m ps [] es b = refl
whole_append m ps (d ∷ ds) es b = whole_append m (listed_one (N.new_of m d.meaning) (N.identifier_of m d) ps) ds es (book_listed (N.new_of m d.meaning) (N.identifier_of m d) ps d.place b)

-- ---- parameters of earlier procedures do not matter
abbrev own : List ℕ → ℕ → ℕ → W.Identifier
own w m r = record { spelling = w; owner = W.procedure_at m r }

record Agree (m n : ℕ) (ps qs : List W.Identifier) : Type 0 where
  same : (w : List ℕ) (r : ℕ) → n ≤ r → N.is_listed (own w m r) ps ≡ N.is_listed (own w m r) qs

agree_more : (m n : ℕ) (i : W.Identifier) (ps qs : List W.Identifier) → Agree m n ps qs → Agree m n (i ∷ ps) (i ∷ qs)
unfolding N.is_listed
agree_more m n i ps qs h = record { same = λ w r k. ap (λ (z : Bool). W.is_identifier w (W.procedure_at m r) i || z) (h.same w r k) }

agree_own : (m n high : ℕ) (w : List ℕ) (k : Scope) (ps qs : List W.Identifier) → Within n high k → Agree m n ps qs
    → N.is_listed (record { spelling = w; owner = N.owner_of m k }) ps ≡ N.is_listed (record { spelling = w; owner = N.owner_of m k }) qs
agree_own m n high w global ps qs h a = absurd h
agree_own m n high w (inside r) ps qs h a = a.same w r h.0

module _ (m n high : ℕ) (es : List Declared) (again : (ps qs : List W.Identifier) (b : Book) → Agree m n ps qs → book_whole m ps es b ≡ book_whole m qs es b) where
  same_one : (y : N.New) (w : List ℕ) (k : Scope) (p : ℕ) (ps qs : List W.Identifier) (b : Book) → (is_listing y ≡ true → Within n high k) → Agree m n ps qs
      → book_whole m (listed_one y (record { spelling = w; owner = N.owner_of m k }) ps) es (book_listed y (record { spelling = w; owner = N.owner_of m k }) ps p b)
      ≡ book_whole m (listed_one y (record { spelling = w; owner = N.owner_of m k }) qs) es (book_listed y (record { spelling = w; owner = N.owner_of m k }) qs p b)
  same_one (N.new d) w k p ps qs b h a = again ps qs (book_one (record { spelling = w; owner = N.owner_of m k }) d p b) a
  same_one N.listing w k p ps qs b h a =
      let i : W.Identifier = record { spelling = w; owner = N.owner_of m k } in
      ap (λ (z : Bool). book_whole m (i ∷ ps) es (cond z (book_second p b) b)) (agree_own m n high w k ps qs (h refl) a) ∙ again (i ∷ ps) (i ∷ qs) (cond (N.is_listed i qs) (book_second p b) b) (agree_more m n i ps qs a)

whole_same : (m n high : ℕ) (ds : List Declared) → Owned n high ds → (ps qs : List W.Identifier) (b : Book) → Agree m n ps qs → book_whole m ps ds b ≡ book_whole m qs ds b
unfolding book_whole
whole_same m n high [] h ps qs b a = refl
whole_same m n high (d ∷ ds) h ps qs b a =
    same_one m n high ds (λ rs us c. whole_same m n high ds h.1 rs us c) (N.new_of m d.meaning) d.spelling d.scope d.place ps qs b (λ z. h.0.is (sym (listing_is m d.meaning) ∙ z)) a

-- of rows before n, none is listed for a row from n on
other_owner : (m low n r : ℕ) (k : Scope) → Within low n k → n ≤ r → W.same_owner (N.owner_of m k) (W.procedure_at m r) ≡ false
other_owner m low n r global h k = absurd h
other_owner m low n r (inside q) h k = rw (ne_eqb q r (λ z. absurd (omega (arith, h.1, k, z)))) (and-false (eqb m m))

record Unlisted (m n : ℕ) (ps : List W.Identifier) : Type 0 where
  none : (w : List ℕ) (r : ℕ) → n ≤ r → N.is_listed (own w m r) ps ≡ false

unlisted_more : (m low n : ℕ) (w : List ℕ) (k : Scope) (ps : List W.Identifier) → Within low n k → Unlisted m n ps → Unlisted m n (record { spelling = w; owner = N.owner_of m k } ∷ ps)
unfolding N.is_listed
unlisted_more m low n w k ps h u = record { none = λ v r l. rw (other_owner m low n r k h l, u.none v r l) (no (same w v)) }
  where
    no : (x : Bool) → ((x && false) || false) ≡ false
    no true = refl
    no false = refl

unlisted_one : (m low n : ℕ) (y : N.New) (w : List ℕ) (k : Scope) (ps : List W.Identifier) → (is_listing y ≡ true → Within low n k) → Unlisted m n ps → Unlisted m n (listed_one y (record { spelling = w; owner = N.owner_of m k }) ps)
unlisted_one m low n (N.new d) w k ps h u = u
unlisted_one m low n N.listing w k ps h u = unlisted_more m low n w k ps (h refl) u

unlisted_all : (m low n : ℕ) (ds : List Declared) (ps : List W.Identifier) → Owned low n ds → Unlisted m n ps → Unlisted m n (listed_all m ds ps)
unlisted_all m low n [] ps h u = u
unlisted_all m low n (d ∷ ds) ps h u = unlisted_all m low n ds _ h.1 (unlisted_one m low n (N.new_of m d.meaning) d.spelling d.scope ps (λ z. h.0.is (sym (listing_is m d.meaning) ∙ z)) u)

-- THE NAMES OF A TURN come to those before it as if they were the first
pub whole_behind : (m low n high : ℕ) (ds es : List Declared) (b : Book) → Owned low n ds → Owned n high es → book_whole m [] (ds ++ es) b ≡ book_whole m [] es (book_whole m [] ds b)
unfolding N.is_listed
whole_behind m low n high ds es b h k =
    let u : Unlisted m n (listed_all m ds []) = unlisted_all m low n ds [] h (record { none = λ w r l. refl }) in
    whole_append m [] ds es b ∙ whole_same m n high es k (listed_all m ds []) [] (book_whole m [] ds b) (record { same = λ w r l. u.none w r l })

-- ---- where no parameter is declared, the names are entered one after the other
pub record Plain (d : Declared) : Type 0 where
  pub is : N.is_parameter d.meaning ≡ false

abbrev pub AllPlain : List Declared → Type 0
AllPlain [] = Unit {0}
AllPlain (d ∷ ds) = Plain d × AllPlain ds

plain_one : (y : N.New) (i : W.Identifier) (ps : List W.Identifier) (p : ℕ) (b : Book) → is_listing y ≡ false → (listed_one y i ps ≡ ps) × (book_listed y i ps p b ≡ book_new y i p b)
plain_one (N.new d) i ps p b h = (refl, refl)
plain_one N.listing i ps p b h = absurd (false≢true (sym h))

pub whole_plain : (m : ℕ) (ps : List W.Identifier) (ds es : List Declared) (b : Book) → AllPlain ds → book_whole m ps (ds ++ es) b ≡ book_whole m ps es (book_all m ds b)
unfolding book_whole book_all
whole_plain m ps [] es b h = refl
whole_plain m ps (d ∷ ds) es b h =
    let y : N.New = N.new_of m d.meaning in
    let i : W.Identifier = N.identifier_of m d in
    let e : (listed_one y i ps ≡ ps) × (book_listed y i ps d.place b ≡ book_new y i d.place b) = plain_one y i ps d.place b (listing_is m d.meaning ∙ h.0.is) in
    ap (λ (z : List W.Identifier). book_whole m z (ds ++ es) (book_listed y i ps d.place b)) e.0 ∙ ap (λ (z : Book). book_whole m ps (ds ++ es) z) e.1 ∙ whole_plain m ps ds es (book_new y i d.place b) h.1

pub whole_all : (m : ℕ) (ps : List W.Identifier) (ds : List Declared) (b : Book) → AllPlain ds → book_whole m ps ds b ≡ book_all m ds b
unfolding book_whole
whole_all m ps ds b h = ap (λ (z : List Declared). book_whole m ps z b) (sym (append-nil ds)) ∙ whole_plain m ps ds [] b h

pub plain_means : (k : Scope) (x : Meaning) (ns : List Named) → N.is_parameter x ≡ false → AllPlain (means k x ns)
plain_means k x [] h = tt
plain_means k x (n ∷ ns) h = (record { is = h }, plain_means k x ns h)

-- ---- and else but for the one that is declared twice
pub record Almost (b c : Book) : Type 0 where
  pub identifiers : b.identifiers ≡ c.identifiers
  pub denotations : b.denotations ≡ c.denotations
  pub activities : b.activities ≡ c.activities
  pub past : b.past ≡ c.past

pub almost_self : (b : Book) → Almost b b
almost_self b = record { identifiers = refl; denotations = refl; activities = refl; past = refl }

almost_add : (g : Bool) (i : W.Identifier) (d : W.Denotation) (p : ℕ) (b c : Book) → Almost b c → Almost (cond g (book_past p b) (book_more i d b)) (cond g (book_past p c) (book_more i d c))
almost_add true i d p b c h = record { identifiers = h.identifiers; denotations = h.denotations; activities = h.activities; past = ap (λ (z : Option ℕ). first_of z p) h.past }
almost_add false i d p b c h = record {
  identifiers = ap (λ (z : List W.Identifier). z ++ i ∷ []) h.identifiers;
  denotations = ap (λ (z : List W.Denotation). z ++ d ∷ []) h.denotations;
  activities = ap (λ (z : List W.Activity). z ++ W.inactive ∷ []) h.activities;
  past = h.past;
}

almost_joint : (x : N.Joint) (a p : ℕ) (b c : Book) → Almost b c → Almost (book_joint x a p b) (book_joint x a p c)
almost_joint (N.joint d) a p b c h = record { identifiers = h.identifiers; denotations = ap (λ (z : List W.Denotation). set z a d) h.denotations; activities = h.activities; past = h.past }
almost_joint N.twice a p b c h = record { identifiers = h.identifiers; denotations = h.denotations; activities = h.activities; past = h.past }

almost_at : (x : W.Address) (i : W.Identifier) (d : W.Denotation) (p : ℕ) (b c : Book) → Almost b c → Almost (book_at x i d p b) (book_at x i d p c)
unfolding book_add book_join
almost_at W.unknown i d p b c h =
    subst (λ (z : List W.Identifier). Almost (cond (leb declared_names (length b.identifiers)) (book_past p b) (book_more i d b)) (cond (leb declared_names (length z)) (book_past p c) (book_more i d c))) h.identifiers
    (almost_add (leb declared_names (length b.identifiers)) i d p b c h)
almost_at (W.address a) i d p b c h =
    subst (λ (z : List W.Denotation). Almost (book_joint (N.joint_of (get_or b.denotations a W.builtin_name) d) a p b) (book_joint (N.joint_of (get_or z a W.builtin_name) d) a p c)) h.denotations
    (almost_joint (N.joint_of (get_or b.denotations a W.builtin_name) d) a p b c h)

almost_one : (i : W.Identifier) (d : W.Denotation) (p : ℕ) (b c : Book) → Almost b c → Almost (book_one i d p b) (book_one i d p c)
unfolding book_one
almost_one i d p b c h =
    subst (λ (z : List W.Identifier). Almost (book_at (W.address_in i.spelling i.owner 0 b.identifiers) i d p b) (book_at (W.address_in i.spelling i.owner 0 z) i d p c)) h.identifiers
    (almost_at (W.address_in i.spelling i.owner 0 b.identifiers) i d p b c h)

almost_twice : (g : Bool) (p : ℕ) (b c : Book) → Almost b c → Almost (cond g (book_second p b) b) c
almost_twice true p b c h = record { identifiers = h.identifiers; denotations = h.denotations; activities = h.activities; past = h.past }
almost_twice false p b c h = h

almost_listed : (y : N.New) (i : W.Identifier) (ps : List W.Identifier) (p : ℕ) (b c : Book) → Almost b c → Almost (book_listed y i ps p b) (book_new y i p c)
almost_listed (N.new d) i ps p b c h = almost_one i d p b c h
almost_listed N.listing i ps p b c h = almost_twice (N.is_listed i ps) p b c h

pub whole_almost : (m : ℕ) (ps : List W.Identifier) (ds : List Declared) (b c : Book) → Almost b c → Almost (book_whole m ps ds b) (book_all m ds c)
unfolding book_whole book_all
whole_almost m ps [] b c h = h
whole_almost m ps (d ∷ ds) b c h = whole_almost m (listed_one (N.new_of m d.meaning) (N.identifier_of m d) ps) ds _ _ (almost_listed (N.new_of m d.meaning) (N.identifier_of m d) ps d.place b c h)

-- where the reading stops, which does not matter
faulty_either : (x y : Option ℕ) (w : Why) (q : ℕ) → twice_or x (Err (w, q)) ≡ twice_or y (Err (w, q))
faulty_either None None w q = refl
faulty_either None (Some p) w q = refl
faulty_either (Some p) None w q = refl
faulty_either (Some p) (Some r) w q = refl

pub fault_either : (past x y : Option ℕ) (w : Why) (q : ℕ) → fault_in past x (Err (w, q)) ≡ fault_in past y (Err (w, q))
unfolding fault_in
fault_either None x y w q = faulty_either x y w q
fault_either (Some p) x y w q = refl

-- ---- THE TOKENS of a list of parameters, and its names
abbrev pub book_twice : Option ℕ → Book → Book
book_twice None b = b
book_twice (Some p) b = book_second p b

abbrev is_past : Expected → Bool
is_past (Ok e) = true
is_past (Err (w, p)) = false

abbrev place_or : ℕ → Reading Named → ℕ
place_or a (read n) = n.place
place_or a (refused w p) = a

abbrev end_or : ℕ → Reading Named → ℕ
end_or a (read n) = n.to
end_or a (refused w p) = a

abbrev spelling_in : Reading Named → List ℕ
spelling_in (read n) = n.spelling
spelling_in (refused w p) = []

place_of : (t : Token) (a b : ℕ) → (place_or a (name_of t a b) ≡ a) × (end_or b (name_of t a b) ≡ b)
place_of (word w) a b = by_size (leb (length w) 31)
  where
    by_size : (g : Bool) → (place_or a (cond g (read (record { spelling = w; place = a; to = b })) (refused OverLimit a)) ≡ a) × (end_or b (cond g (read (record { spelling = w; place = a; to = b })) (refused OverLimit a)) ≡ b)
    by_size true = (refl, refl)
    by_size false = (refl, refl)
place_of (integer w) a b = (refl, refl)
place_of (string w) a b = (refl, refl)
place_of (bits w) a b = (refl, refl)
place_of (sign w) a b = (refl, refl)
place_of nothing a b = (refl, refl)
place_of wrong a b = (refl, refl)

record Name (s : List ℕ) (e : ℕ) (n : Named) : Type 0 where
  from : (token_at mixed s e).from ≡ n.place
  to : (token_at mixed s e).to ≡ n.to
  spelled : n.spelling ≡ folded mixed (part (n.to - n.place) n.place s)
  low : e ≤ n.place
  some : n.place < n.to
  high : n.to ≤ length s

name_is : (s : List ℕ) (e : ℕ) (n : Named) → name_at mixed s e ≡ read n → Name s e n
unfolding name_at
name_is s e n h =
    let f : Names s e n.place n.to = named_is s e (named_for (name_at mixed s e)) n.place n.to refl (ap named_for h) in
    record {
      from = sym (place_of (token_at mixed s e).token (token_at mixed s e).from (token_at mixed s e).to).0 ∙ ap (place_or (token_at mixed s e).from) h;
      to = sym (place_of (token_at mixed s e).token (token_at mixed s e).from (token_at mixed s e).to).1 ∙ ap (end_or (token_at mixed s e).to) h;
      spelled = ap spelling_in (sym h ∙ f.is);
      low = f.past;
      some = f.low;
      high = f.high;
    }

-- names one after the other, with commas between them, lead from a to z
abbrev is_comma : List ℕ → ℕ → Bool
is_comma s e = is_spelled (44 ∷ []) (token_at mixed s e).token

comma_past : (s : List ℕ) (e : ℕ) → is_comma s e ≡ true → (e < (token_at mixed s e).to) × ((token_at mixed s e).to ≤ length s)
comma_past s e h =
    let t : ((token_at mixed s e).from < (token_at mixed s e).to) × ((token_at mixed s e).to ≤ length s) = (token_on s e).some (sign_real "," (token_at mixed s e).token (sym (sign_spelled "," (44 ∷ []) refl (token_at mixed s e).token) ∙ h)) in
    (omega (arith, (token_on s e).low, t.0), t.1)

abbrev Walk : List ℕ → ℕ → List Named → ℕ → Type 0
Walk s a [] z = a ≡ z
Walk s a (n ∷ ns) z = (name_at mixed s a ≡ read n) × ((is_comma s n.to ≡ true) × Walk s (token_at mixed s n.to).to ns z)

walk_low : (s : List ℕ) (a : ℕ) (ns : List Named) (z : ℕ) → Walk s a ns z → a + length ns ≤ z
walk_low s a [] z h = omega arith
walk_low s a (n ∷ ns) z h =
    let x : Name s a n = name_is s a n h.0 in
    omega (arith, x.low, x.some, (comma_past s n.to h.1.0).0, walk_low s (token_at mixed s n.to).to ns z h.1.1)

walk_more : (s : List ℕ) (a : ℕ) (ns : List Named) (z : ℕ) (n : Named) → Walk s a ns z → name_at mixed s z ≡ read n → is_comma s n.to ≡ true → Walk s a (ns ++ n ∷ []) (token_at mixed s n.to).to
walk_more s a [] z n h e c = (ap (name_at mixed s) h ∙ e, (c, refl))
walk_more s a (m ∷ ns) z n h e c = (h.0, (h.1.0, walk_more s (token_at mixed s m.to).to ns z n h.1.1 e c))

abbrev is_spelled_in : List ℕ → List Named → Bool
is_spelled_in w [] = false
is_spelled_in w (n ∷ ns) = same n.spelling w || is_spelled_in w ns

spelled_by_lem : (s : List ℕ) (a b p q : ℕ) (g : Bool) → eqb (q - p) (b - a) ≡ g → (g && same (folded mixed (part (b - a) p s)) (folded mixed (part (b - a) a s))) ≡ same (folded mixed (part (q - p) p s)) (folded mixed (part (b - a) a s))
spelled_by_lem s a b p q true e = ap (λ (z : ℕ). same (folded mixed (part z p s)) (folded mixed (part (b - a) a s))) (sym (eqb-true (q - p) (b - a) e))
spelled_by_lem s a b p q false e = same_length (folded mixed (part (q - p) p s)) (folded mixed (part (b - a) a s)) (λ z. eqb-false (q - p) (b - a) e (sym (length_folded mixed (part (q - p) p s) ∙ length_part (q - p) p s) ∙ z ∙ length_folded mixed (part (b - a) a s) ∙ length_part (b - a) a s))

spelled_is : (s : List ℕ) (a b p q : ℕ) → spelled_as s a b p q ≡ same (folded mixed (part (q - p) p s)) (folded mixed (part (b - a) a s))
unfolding spelled_as
spelled_is s a b p q = spelled_by_lem s a b p q (eqb (q - p) (b - a)) refl

or_when : (g r : Bool) → when g (λ _. true) (λ _. r) ≡ (g || r)
or_when true r = refl
or_when false r = refl

before_is : (s : List ℕ) (x : Named) (z : ℕ) → name_at mixed s z ≡ read x → (f a : ℕ) (ns : List Named) → Walk s a ns z → length ns < f → listed_before s x.place x.to f a ≡ is_spelled_in x.spelling ns
unfolding listed_before
before_is s x z e zero a ns h k = absurd (omega arith)
before_is s x z e (suc f) a [] h k = let n : Name s z x = name_is s z x e in rw (h, n.from, le-leb x.place x.place (omega arith))
before_is s x z e (suc f) a (m ∷ ns) h k =
    let n : Name s z x = name_is s z x e in
    let o : Name s a m = name_is s a m h.0 in
    let l : m.place < x.place = omega (arith, o.some, (comma_past s m.to h.1.0).0, walk_low s (token_at mixed s m.to).to ns z h.1.1, n.low) in
    let i : spelled_as s x.place x.to m.place m.to ≡ same m.spelling x.spelling = rw (n.spelled, o.spelled) (spelled_is s x.place x.to m.place m.to) in
    let j : listed_before s x.place x.to f (token_at mixed s m.to).to ≡ is_spelled_in x.spelling ns = before_is s x z e f (token_at mixed s m.to).to ns h.1.1 (omega arith) in
    rw (o.from, o.to, lt-leb x.place m.place l, i, j) (or_when (same m.spelling x.spelling) (is_spelled_in x.spelling ns))

-- ---- those that were listed are the names so far
or_swap : (a b c : Bool) → (a || (b || c)) ≡ (b || (a || c))
or_swap true true c = refl
or_swap true false c = refl
or_swap false true c = refl
or_swap false false c = refl

spelled_more : (w : List ℕ) (ns : List Named) (n : Named) → is_spelled_in w (ns ++ n ∷ []) ≡ (same n.spelling w || is_spelled_in w ns)
spelled_more w [] n = refl
spelled_more w (m ∷ ns) n = ap (λ (z : Bool). same m.spelling w || z) (spelled_more w ns n) ∙ or_swap (same m.spelling w) (same n.spelling w) (is_spelled_in w ns)

record Holds (m r : ℕ) (ps : List W.Identifier) (ns : List Named) : Type 0 where
  same : (w : List ℕ) → N.is_listed (own w m r) ps ≡ is_spelled_in w ns

holds_more : (m r : ℕ) (ps : List W.Identifier) (ns : List Named) (n : Named) → Holds m r ps ns → Holds m r (own n.spelling m r ∷ ps) (ns ++ n ∷ [])
unfolding N.is_listed
holds_more m r ps ns n h = record { same = λ w. rw (eq-eqb m m refl, eq-eqb r r refl, h.same w, spelled_more w ns n) (ap (λ (z : Bool). z || is_spelled_in w ns) (and_true (same n.spelling w))) }
  where
    and_true : (x : Bool) → (x && true) ≡ x
    and_true true = refl
    and_true false = refl

-- a name that is declared twice stays the first
second_stays : (b : Book) (p q : ℕ) → b.second ≡ Some q → book_second p b ≡ b
second_stays b p q h = ap (λ (z : Option ℕ). record { identifiers = b.identifiers; denotations = b.denotations; activities = b.activities; past = b.past; second = z }) (rw h)

marked_stays : (m r : ℕ) (ps : List W.Identifier) (ns : List Named) (b : Book) (q : ℕ) → b.second ≡ Some q → book_whole m ps (means (inside r) parameter ns) b ≡ b
unfolding book_whole
marked_stays m r ps [] b q h = refl
marked_stays m r ps (n ∷ ns) b q h = ap (book_whole m (own n.spelling m r ∷ ps) (means (inside r) parameter ns)) (either (N.is_listed (own n.spelling m r) ps)) ∙ marked_stays m r (own n.spelling m r ∷ ps) ns b q h
  where
    either : (g : Bool) → cond g (book_second n.place b) b ≡ b
    either true = second_stays b n.place q h
    either false = refl

second_more : (m r : ℕ) (ps : List W.Identifier) (ns : List Named) (b : Book) (p : ℕ) (k : Option ℕ) → b.second ≡ k → book_whole m ps (means (inside r) parameter ns) (book_second p b) ≡ book_second p b
second_more m r ps ns b p None h = marked_stays m r ps ns (book_second p b) p (rw h)
second_more m r ps ns b p (Some q) h = marked_stays m r ps ns (book_second p b) q (rw h)

-- ---- THE FIRST PARAMETER that is listed twice, by tokens and by names
module _ (s : List ℕ) (list m r : ℕ) where
  twice_turn : (f : ℕ) (x : Named) (ps : List W.Identifier) (b : Book) (g c : Bool)
      → (c ≡ true → book_twice (parameter_twice s list f (token_at mixed s x.to).to) b ≡ book_whole m (own x.spelling m r ∷ ps) (means (inside r) parameter (names_read s f (token_at mixed s x.to).to)) b)
      → book_twice (when g (λ _. Some x.place) (λ _. when c (λ _. parameter_twice s list f (token_at mixed s x.to).to) (λ _. None))) b
      ≡ book_whole m (own x.spelling m r ∷ ps) (means (inside r) parameter (when c (λ _. names_read s f (token_at mixed s x.to).to) (λ _. []))) (cond g (book_second x.place b) b)
  unfolding book_whole
  twice_turn f x ps b true c h = sym (second_more m r (own x.spelling m r ∷ ps) (when c (λ _. names_read s f (token_at mixed s x.to).to) (λ _. [])) b x.place b.second refl)
  twice_turn f x ps b false true h = h refl
  twice_turn f x ps b false false h = refl

  twice_name : (f z : ℕ) (ns : List Named) (ps : List W.Identifier) (b : Book) (R : Reading Named) → name_at mixed s z ≡ R → Walk s list ns z → Holds m r ps ns → is_past (list_next (41 ∷ []) s (name_end R) (names_end (41 ∷ []) s f)) ≡ true
      → ((e : ℕ) (ms : List Named) (qs : List W.Identifier) → Walk s list ms e → Holds m r qs ms → is_past (names_end (41 ∷ []) s f e) ≡ true → book_twice (parameter_twice s list f e) b ≡ book_whole m qs (means (inside r) parameter (names_read s f e)) b)
      → book_twice (when (listed_before s (token_at mixed s z).from (token_at mixed s z).to (length s) list) (λ _. Some (token_at mixed s z).from) (λ _. when (is_comma s (token_at mixed s z).to) (λ _. parameter_twice s list f (token_at mixed s (token_at mixed s z).to).to) (λ _. None))) b
      ≡ book_whole m ps (means (inside r) parameter (names_next s R (names_read s f))) b
  unfolding name_end book_whole
  twice_name f z ns ps b (refused w p) e h k l again = absurd (false≢true l)
  twice_name f z ns ps b (read x) e h k l again =
      let n : Name s z x = name_is s z x e in
      let g : listed_before s x.place x.to (length s) list ≡ N.is_listed (own x.spelling m r) ps = before_is s x z e (length s) list ns h (omega (arith, walk_low s list ns z h, n.low, n.some, n.high)) ∙ sym (k.same x.spelling) in
      rw (n.from, n.to, g)
      (twice_turn f x ps b (N.is_listed (own x.spelling m r) ps) (is_comma s x.to)
      (λ c. again (token_at mixed s x.to).to (ns ++ x ∷ []) (own x.spelling m r ∷ ps) (walk_more s list ns z x h e c) (holds_more m r ps ns x k) (rw c at l)))

  twice_is : (f z : ℕ) (ns : List Named) (ps : List W.Identifier) (b : Book) → Walk s list ns z → Holds m r ps ns → is_past (names_end (41 ∷ []) s f z) ≡ true
      → book_twice (parameter_twice s list f z) b ≡ book_whole m ps (means (inside r) parameter (names_read s f z)) b
  unfolding parameter_twice list_end names_read item_past
  twice_is zero z ns ps b h k l = absurd (false≢true l)
  twice_is (suc f) z ns ps b h k l = twice_name f z ns ps b (name_at mixed s z) refl h k l (λ e ms qs. twice_is f e ms qs b)

  pub twice_names : (b : Book) → is_past (names_end (41 ∷ []) s (length s) list) ≡ true → book_twice (parameter_twice s list (length s) list) b ≡ book_whole m [] (means (inside r) parameter (names_read s (length s) list)) b
  unfolding N.is_listed
  twice_names b l = twice_is (length s) list [] [] b refl (record { same = λ w. refl }) l

-- ---- the names of a PROCEDURE statement
then_names : {A : Type 0} (ds : List Declared) (R : Reading A) (f : A → D.Declaring) → ((a : A) → names_in (f a) ≡ ds) → names_in (D.then_declare ds R f) ≡ ds
then_names ds (read a) f h = h a
then_names ds (refused w p) f h = refl

module _ (s : List ℕ) (k : Scope) where
  head_names : (ns : List Named) (e : ℕ) → names_in (D.procedure_head mixed k s ns e) ≡ means k parameter ns
  unfolding D.procedure_head D.returns_type
  head_names ns e =
      let ds : List Declared = means k parameter ns in
      then_names ds (expect_word mixed "RETURNS" s e) _ λ q. then_names ds (expect_sign mixed "(" s q) _ λ z.
      when_has (λ (x : D.Declaring). names_in x ≡ ds) (D.is_character (token_at mixed s z).token) _ _
      (λ _. then_names ds (expect_sign mixed ")" s (token_at mixed s z).to) _ λ y. then_names ds (expect_sign mixed ";" s y) _ λ v. refl) λ _.
      then_names ds (expect_word mixed "FIXED" s z) _ λ u. then_names ds (expect_sign mixed ")" s u) _ λ y. then_names ds (expect_sign mixed ";" s y) _ λ v. refl

  after_names_lem : (x : Expected) (all : List Named) → names_in (after_names k parameter s [] (D.procedure_head mixed k s) x all) ≡ means k parameter all
  after_names_lem (Ok e) all = head_names all e
  after_names_lem (Err (w, p)) all = refl

  after_read : (c : ℕ) (x : Expected) (all : List Named) → is_read (read_procedure c (after_names k parameter s [] (D.procedure_head mixed k s) x all)) ≡ true → is_past x ≡ true
  unfolding read_procedure
  after_read c (Ok e) all h = refl
  after_read c (Err (w, p)) all h = h

  listed_names : (e : ℕ) → D.names_at mixed k parameter s [] (length s) [] e (D.procedure_head mixed k s) ≡ after_names k parameter s [] (D.procedure_head mixed k s) (names_end (41 ∷ []) s (length s) e) (names_read s (length s) e)
  listed_names e = names_at_lem k parameter s [] (D.procedure_head mixed k s) (length s) [] e (omega arith) (λ z. absurd (omega arith))

  names_by : (e : ℕ) (g : Bool) → is_sign "(" (token_at mixed s e).token ≡ g → names_in (D.procedure_clause mixed k s e) ≡ means k parameter (when g (λ _. names_read s (length s) (token_at mixed s e).to) (λ _. []))
  unfolding D.procedure_clause
  names_by e true h =
      let list : ℕ = (token_at mixed s e).to in
      rw (h, listed_names list) (after_names_lem (names_end (41 ∷ []) s (length s) list) (names_read s (length s) list))
  names_by e false h = rw h (head_names [] e)

  pub clause_names : (e : ℕ) → names_in (D.procedure_clause mixed k s e) ≡ means k parameter (when (is_sign "(" (token_at mixed s e).token) (λ _. names_read s (length s) (token_at mixed s e).to) (λ _. []))
  clause_names e = names_by e (is_sign "(" (token_at mixed s e).token) refl

book_twice_lem : (d t : List ℕ) (k : Option ℕ) (x : Tally) → book_of d t (tally_twice k x) ≡ book_twice k (book_of d t x)
unfolding book_of
book_twice_lem d t None x = refl
book_twice_lem d t (Some p) x = refl

-- what the code has of a PROCEDURE statement that is read is what the definition does to the names
module _ (d t : List ℕ) (x : Tally) (m n : ℕ) (s : List ℕ) (from : ℕ) where
  procedure_by : (g : Bool) → is_sign "(" (token_at mixed s from).token ≡ g
      → is_read (read_procedure from (D.procedure_clause mixed (inside n) s from)) ≡ true
      → book_of d t (cond g (tally_twice (parameter_twice s (token_at mixed s from).to (length s) (token_at mixed s from).to) x) x) ≡ book_whole m [] (names_in (D.procedure_clause mixed (inside n) s from)) (book_of d t x)
  unfolding D.procedure_clause book_whole
  procedure_by true e h =
      let list : ℕ = (token_at mixed s from).to in
      let l : is_read (read_procedure from (D.names_at mixed (inside n) parameter s [] (length s) [] list (D.procedure_head mixed (inside n) s))) ≡ true = rw e at h in
      let u : is_past (names_end (41 ∷ []) s (length s) list) ≡ true = after_read s (inside n) from (names_end (41 ∷ []) s (length s) list) (names_read s (length s) list) (ap (λ (z : D.Declaring). is_read (read_procedure from z)) (sym (listed_names s (inside n) list)) ∙ l) in
      let v : names_in (D.names_at mixed (inside n) parameter s [] (length s) [] list (D.procedure_head mixed (inside n) s)) ≡ means (inside n) parameter (names_read s (length s) list) = ap names_in (listed_names s (inside n) list) ∙ after_names_lem s (inside n) (names_end (41 ∷ []) s (length s) list) (names_read s (length s) list) in
      rw (e, v) (book_twice_lem d t (parameter_twice s list (length s) list) x ∙ twice_names s list m n (book_of d t x) u)
  procedure_by false e h = rw (e, head_names s (inside n) [] from)

  pub procedure_names : (r : Read) → r ≡ read_procedure from (D.procedure_clause mixed (inside n) s from) → is_read r ≡ true → book_of d t (procedure_tally s from r x) ≡ book_whole m [] (names_in (D.procedure_clause mixed (inside n) s from)) (book_of d t x)
  unfolding procedure_tally
  procedure_names r e h = rw (h, sign_spelled "(" (40 ∷ []) refl (token_at mixed s from).token) (procedure_by (is_sign "(" (token_at mixed s from).token) refl (ap is_read (sym e) ∙ h))

  -- and of one that is refused, but for what is declared twice
  none_entered : (ns : List Named) (b : Book) → book_all m (means (inside n) parameter ns) b ≡ b
  unfolding book_all
  none_entered [] b = refl
  none_entered (y ∷ ns) b = none_entered ns b

  refused_none : book_all m (names_in (D.procedure_clause mixed (inside n) s from)) (book_of d t x) ≡ book_of d t x
  refused_none = rw (clause_names s (inside n) from) (none_entered (when (is_sign "(" (token_at mixed s from).token) (λ _. names_read s (length s) (token_at mixed s from).to) (λ _. [])) (book_of d t x))

  pub procedure_refused : (r : Read) → is_read r ≡ false → Almost (book_whole m [] (names_in (D.procedure_clause mixed (inside n) s from)) (book_of d t x)) (book_of d t (procedure_tally s from r x))
  unfolding procedure_tally
  procedure_refused r h =
      let b : Book = book_of d t x in
      let c : Book = book_whole m [] (names_in (D.procedure_clause mixed (inside n) s from)) b in
      rw h (subst (λ (z : Book). Almost c z) refused_none (whole_almost m [] (names_in (D.procedure_clause mixed (inside n) s from)) b b (almost_self b)))
