-- The arguments of an entry, one after the other.
-- Assumes nothing.
use Rattle.outcomes.specs.Types.{Scanned}
use Rattle.operands.specs.Types.{Evaluated}
use Rattle.std.proofs.Common.{Option, Some, None}
use mathlib.Core.Path.{◌≡◌, refl, sym, ap, subst, ◌∙◌}
use mathlib.Core.Bool.{Bool, true, false, cond}
use mathlib.Core.List.{List, [], ◌∷◌, ◌++◌}
use Prim.Native.Nat.{ℕ, suc, ◌+◌, ◌-◌, ◌<◌, ◌≤◌}
use native.Mathlib.Omega.{arith}
use Rattle.std.specs.Prelude.{Ok, Err}
use lib.ListN.{length, take, length-set}
use lib.IntN.{ℤ}
use Rattle.definition.specs.Bytes.{mixed}
use Rattle.definition.specs.Lists.{part}
use Rattle.definition.specs.Tokens.{token_at}
use Rattle.definition.specs.Values as Val
use Rattle.definition.specs.World.{World, Res, good, bad, bind, ask}
use Rattle.definition.specs.Evaluate as Ev
use Rattle.definition.specs.Scan as D
use Rattle.definition.specs.Scan.{Argument, list_up_to}
use Rattle.definition.specs.declared.Why.{Why}
use Rattle.definition.specs.declared.Why.TheVariants.{TooLong, WrongName}
use Rattle.definition.specs.declared.ValueType.{ValueType}
use Rattle.definition.specs.declared.ValueType.TheVariants.{FixedType, CharacterType}
use Rattle.definition.proofs.Parts.{length_part, part_of_part}
use Rattle.definition.proofs.Keeping.{Gives, given, failed}
use Rattle.definition.proofs.Ranges.{Small, to_fixed_small}
use Rattle.fixed.proofs.Magnitude.{stored_back}
use lib.Dec.{leb}
use borrow.Author.Tests.{leb-true}
use native.Mathlib.Nat.{mod-eq_of_lt}
use Rattle.meter.specs.declared.Meter.{Meter}
use Rattle.deck.specs.Answer.{body_in}
use Rattle.names.specs.declared.Place.{Place}
use Rattle.operators.specs.declared.Value.{Value}
use Rattle.operators.specs.declared.Value.TheVariants.{Number, Characters, Bits}
use Rattle.operators.specs.Stands.{top_of, value_in, size_for, stacked}
use Rattle.operators.proofs.Room.{top_in_lem}
use Rattle.operators.proofs.Answers.{size_is}
use Rattle.operators.proofs.Callers.{below_less, put_is}
use Rattle.callees.specs.declared.Callee.{Callee}
use Rattle.callees.specs.declared.Held.{Held}
use Rattle.callees.specs.declared.Parameter.{Parameter}
use Rattle.callees.specs.Shown.{names_world, world_in}
use Rattle.callees.specs.Answer.{owner_at, parameter_of, ParameterIs, Names, HeldWith, held_number, held_at, fixed_in, held_in, held_size, held_from, Waiting}
use Rattle.callees.proofs.Listing.{First, first_of}
use Rattle.outcomes.specs.declared.Src.{Src}
use Rattle.outcomes.specs.declared.Dest.{Dest}
use Rattle.outcomes.specs.Texts.{room_of, stretch_of, text_of, Within, part_of}
use Rattle.outcomes.specs.Places.{into_of, into_work, out_in, meter_of}
use Rattle.outcomes.specs.Arguments.{cut_from, argument, Ends, EndIn}
use Rattle.operands.specs.declared.Scene.{Scene}
use Rattle.sums.specs.Numbers.{greatest, sum_to}
use Rattle.sums.proofs.Laws.{sum_fits}
use Rattle.operands.specs.Answer.{res_in}
use Rattle.evaluating.specs.Cycle.{CalleeShown}
use Rattle.scanning.specs.Cycle.{Sourced, Aims, Stage, Left, Came, scanner_in, Scans, TextFits, type_for, next_for, meter_for, converted_by, converted_for, ConvertedIs, Taking, TakenIs}
use Rattle.scanning.proofs.Common.{never, source_same, source_still, text_length, stage_on, left_same, out_work, with_work}
use Rattle.scanning.proofs.Entries.{nil_is}
use Rattle.scanning.proofs.Holding.{held_end, end_low, held_here, end_there, from_there, waiting_there, from_more, end_more, waiting_more}

-- ---- the list of arguments that are left
abbrev pub CutAt : List ℕ → ℕ → List Argument → ℕ → Type 0
CutAt t from [] q = Unit {0}
CutAt t from (x ∷ xs) q = cut_from t from ≡ list_up_to (x ∷ xs) q

cut_start : (t : List ℕ) (from q : ℕ) (xs : List Argument) → cut_from t from ≡ list_up_to xs q → CutAt t from xs q
cut_start t from q [] e = tt
cut_start t from q (x ∷ xs) e = e

cut_next : (t : List ℕ) (p r q : ℕ) (x : Argument) (xs : List Argument) → Ends t p r (x ∷ xs) q → (x ≡ argument p r) × (p ≤ r) × (r < length t) × CutAt t (r + 1) xs q
cut_next t p r q x [] e = (e.0, e.1, e.2, tt)
cut_next t p r q x (y ∷ ys) e = e

bind_nil : (R : Res Why (List Val.Value)) → bind R (λ ys r. good ([] ++ ys) r) ≡ R
bind_nil (good a w) = refl
bind_nil (bad e n) = refl

append_nil : {A : Type 0} (xs : List A) → xs ++ [] ≡ xs
append_nil [] = refl
append_nil {A} (x ∷ xs) = ap (λ (l : List A). x ∷ l) (append_nil xs)

append_one : {A : Type 0} (xs ys : List A) (x : A) → (xs ++ x ∷ []) ++ ys ≡ xs ++ (x ∷ ys)
append_one [] ys x = refl
append_one {A} (z ∷ xs) ys x = ap (λ (l : List A). z ∷ l) (append_one xs ys x)

length_one : (xs : List Ev.Parameter) (x : Ev.Parameter) → length (xs ++ x ∷ []) ≡ length xs + 1
length_one [] x = refl
length_one (z ∷ xs) x = let e : length (xs ++ x ∷ []) ≡ length xs + 1 = length_one xs x in omega arith

-- ---- THE INVARIANT
module _ (deck s rows names c₀ l₀ h₀ w₀ t₀ : List ℕ) (x : Src) (first u n : ℕ) (sc : Scene) (m₀ : Meter) (pl : Place) (list count : ℕ) where
  abbrev asking : List (List ℕ) → Val.Answer (List Ev.Parameter)
  asking ns = Ev.parameters (owner_at pl) ns (names_world deck names sc.names)

  pub record Rest (B : World) (ps : List Ev.Parameter) (xs : List Argument) (q : ℕ) (held : Held) (from at top : ℕ) (m : Meter) (i : ℕ) (c l h w t : List ℕ) : Type 0 where
    pub done : List Ev.Parameter
    pub rest : List Ev.Parameter
    pub args : List Argument
    pub ns : List (List ℕ)
    pub all : done ++ rest ≡ ps
    pub number : length done ≡ i
    pub turn : i + length rest ≡ count
    pub few : count ≤ 256
    pub size : length held.numbers ≡ 256
    pub placed : Names (body_in deck pl.member) ns at
    pub asked : asking ns ≡ Val.gives rest
    pub sized : length args ≡ length rest
    pub cut : CutAt (text_of s w₀ x) from args q
    pub top_is : top ≡ held_end held 0 u done
    pub waits : Waiting held 0 u done
    pub fits : top ≤ 65536
    pub same : bind (D.scan_arguments (scanner_in sc n) (text_of s w₀ x) rest args top (world_in B c l h m.used)) (λ ys r. good (held_from w held 0 u done ++ ys) r) ≡ D.scan_arguments (scanner_in sc n) (text_of s w₀ x) ps xs u (world_in B c₀ l₀ h₀ m₀.used)
    pub left : Left B u w₀ t₀ c l h w t m
    pub text : t ≡ t₀

  pub record Arguing (held : Held) (from at top : ℕ) (m : Meter) (i : ℕ) (c l h w t : List ℕ) : Type 0 where
    pub so : (B : World) (o : Dest) → Stage deck rows names c₀ l₀ h₀ w₀ u sc m₀ t₀ o B → Sourced s w₀ x u → (ns : List (List ℕ)) (ps : List Ev.Parameter) (xs : List Argument) (q : ℕ) → Names (body_in deck pl.member) ns list
        → asking ns ≡ Val.gives ps → count ≡ length ps → length ps ≤ 256 → length xs ≡ length ps → cut_from (text_of s w₀ x) first ≡ list_up_to xs q → Rest B ps xs q held from at top m i c l h w t

  pub arguing_start : (held : Held) → length held.numbers ≡ 256 → Arguing held first list u m₀ 0 c₀ l₀ h₀ w₀ t₀
  unfolding held_from held_end
  arguing_start held e = record {
    so = λ B o g so ns ps xs q nm ak co fw sz ct. record {
      done = [];
      rest = ps;
      args = xs;
      ns = ns;
      all = refl;
      number = refl;
      turn = omega (arith, co);
      few = omega (arith, co);
      size = e;
      placed = nm;
      asked = ak;
      sized = sz;
      cut = cut_start (text_of s w₀ x) first q xs ct;
      top_is = refl;
      waits = tt;
      fits = g.shows.taken;
      same = bind_nil (D.scan_arguments (scanner_in sc n) (text_of s w₀ x) ps xs u (world_in B c₀ l₀ h₀ m₀.used));
      left = left_same deck rows names c₀ l₀ h₀ w₀ u sc m₀ t₀ o B g;
      text = refl;
    };
  }

-- ---- all are taken
module _ (deck s rows names c₀ l₀ h₀ w₀ t₀ : List ℕ) (x : Src) (first u n : ℕ) (sc : Scene) (m₀ : Meter) (z : Callee) (held : Held) (from at top : ℕ) (m : Meter) (i : ℕ) (c l h w t : List ℕ)
    (ar : Arguing deck s rows names c₀ l₀ h₀ w₀ t₀ x first u n sc m₀ z.place z.list z.count held from at top m i c l h w t) where
  rest_of : (B : World) (o : Dest) → Stage deck rows names c₀ l₀ h₀ w₀ u sc m₀ t₀ o B → Sourced s w₀ x u → (b : Ev.Callee) → CalleeShown deck names sc.names z b B → (xs : List Argument) (q : ℕ) → length xs ≡ length b.parameters
      → cut_from (text_of s w₀ x) first ≡ list_up_to xs q → Rest deck s rows names c₀ l₀ h₀ w₀ t₀ x first u n sc m₀ z.place z.list z.count B b.parameters xs q held from at top m i c l h w t
  rest_of B o g so b cs xs q sz ct = ar.so B o g so cs.listed b.parameters xs q cs.placed cs.asked cs.count cs.few sz ct

  done_by : (B : World) (ps : List Ev.Parameter) (xs : List Argument) (q : ℕ) → Rest deck s rows names c₀ l₀ h₀ w₀ t₀ x first u n sc m₀ z.place z.list z.count B ps xs q held from at top m i c l h w t → z.count ≤ i
      → Taking B u w₀ t₀ c l h w t ps (Ok (held, m)) (D.scan_arguments (scanner_in sc n) (text_of s w₀ x) ps xs u (world_in B c₀ l₀ h₀ m₀.used))
  unfolding D.scan_arguments
  done_by B ps xs q r k =
      let e : r.rest ≡ [] = nil_is r.rest (omega (arith, r.turn)) in
      let f : r.done ≡ ps = sym (append_nil r.done) ∙ ap (λ (v : List Ev.Parameter). r.done ++ v) (sym e) ∙ r.all in
      let a : bind (D.scan_arguments (scanner_in sc n) (text_of s w₀ x) r.rest r.args top (world_in B c l h m.used)) (λ ys v. good (held_from w held 0 u r.done ++ ys) v) ≡ good (held_from w held 0 u r.done ++ []) (world_in B c l h m.used) =
      ap (λ (v : List Ev.Parameter). bind (D.scan_arguments (scanner_in sc n) (text_of s w₀ x) v r.args top (world_in B c l h m.used)) (λ ys y. good (held_from w held 0 u r.done ++ ys) y)) e in
      let b : held_from w held 0 u r.done ++ [] ≡ held_from w held 0 u ps = append_nil (held_from w held 0 u r.done) ∙ ap (held_from w held 0 u) f in
      record {
        is = ap (λ (v : List Val.Value). good v (world_in B c l h m.used)) (sym b) ∙ sym a ∙ r.same;
        waits = subst (Waiting held 0 u) f r.waits;
        left = r.left;
        text = r.text;
      }

  pub arguing_done : z.count ≤ i → TakenIs deck s rows names c₀ l₀ h₀ w₀ t₀ x first z u n sc m₀ c l h w t (Ok (held, m))
  arguing_done k = record { is = λ B o g so b cs xs q sz ct. done_by B b.parameters xs q (rest_of B o g so b cs xs q sz ct) k }

-- ---- one more
pub record Head (deck names : List ℕ) (sc : Scene) (pl : Place) (T : List ℕ) (pa : Option Parameter) (from at to q : ℕ) (rest : List Ev.Parameter) (args : List Argument) : Type 0 where
  pub parameter : Ev.Parameter
  pub others : List Ev.Parameter
  pub argument₁ : Argument
  pub arguments : List Argument
  pub ns : List (List ℕ)
  pub rest_is : rest ≡ parameter ∷ others
  pub args_is : args ≡ argument₁ ∷ arguments
  pub type_is : parameter.type ≡ type_for pa
  pub placed : Names (body_in deck pl.member) ns (next_for pa at)
  pub asked : Ev.parameters (owner_at pl) ns (names_world deck names sc.names) ≡ Val.gives others
  pub is : argument₁ ≡ argument from to
  pub order : from ≤ to
  pub within : to < length T
  pub cut : CutAt T (to + 1) arguments q

module _ (deck names : List ℕ) (sc : Scene) (pl : Place) (T : List ℕ) (pa : Option Parameter) (from at to q : ℕ) (pi : ParameterIs deck (body_in deck pl.member) names sc.names pl at pa) where
  abbrev nw : World
  nw = names_world deck names sc.names

  next_is : (prm : Parameter) → pa ≡ Some prm → prm.to ≡ (token_at mixed (body_in deck pl.member) (token_at mixed (body_in deck pl.member) at).to).to
  next_is prm f =
      let g : Some prm ≡ Some (record { address = prm.address; value_type = prm.value_type; to = (token_at mixed (body_in deck pl.member) (token_at mixed (body_in deck pl.member) at).to).to }) = rw f at pi.to in
      let j : prm ≡ record { address = prm.address; value_type = prm.value_type; to = (token_at mixed (body_in deck pl.member) (token_at mixed (body_in deck pl.member) at).to).to } = cc in
      ap (λ (a : Parameter). a.to) j

  and_gives : (a : Val.Answer (List Ev.Parameter)) (p₀ q₀ : Ev.Parameter) (qs : List Ev.Parameter) → Val.and_then a (λ ps. Val.gives (p₀ ∷ ps)) ≡ Val.gives (q₀ ∷ qs) → (a ≡ Val.gives qs) × (p₀ ≡ q₀)
  and_gives (Val.gives ps) p₀ q₀ qs e = let g : ps ≡ qs = cc in let j : p₀ ≡ q₀ = cc in (ap Val.gives g, j)
  and_gives (Val.fails w) p₀ q₀ qs e = never _ (cc)

  head_by : (rest : List Ev.Parameter) (args : List Argument) (ns : List (List ℕ)) → 0 < length rest → length args ≡ length rest → Names (body_in deck pl.member) ns at → Ev.parameters (owner_at pl) ns nw ≡ Val.gives rest → CutAt T from args q
      → ((xs : List Argument) → cut_from T from ≡ list_up_to xs q → Ends T from to xs q) → (y : Option Parameter) → pa ≡ y → Head deck names sc pl T pa from at to q rest args
  unfolding Ev.parameters
  head_by [] args ns lt sz nm ak ct en y f = absurd (omega arith)
  head_by (q₀ ∷ qs) [] ns lt sz nm ak ct en y f = absurd (omega (arith, sz))
  head_by (q₀ ∷ qs) (a ∷ ax) [] lt sz nm ak ct en y f = never _ (cc)
  head_by (q₀ ∷ qs) (a ∷ ax) (l ∷ ns) lt sz nm ak ct en None f =
      let g : parameter_of deck names sc.names pl l ≡ Val.fails WrongName = rw (first_of (body_in deck pl.member) l ns at nm).spelled (sym pi.is ∙ rw f) in
      let j : ◌≡◌ {A = Val.Answer (List Ev.Parameter)} (Val.fails WrongName) (Val.gives (q₀ ∷ qs)) = rw g at ak in
      never _ (cc)
  head_by (q₀ ∷ qs) (a ∷ ax) (l ∷ ns) lt sz nm ak ct en (Some prm) f =
      let fi : First (body_in deck pl.member) l ns at = first_of (body_in deck pl.member) l ns at nm in
      let g : parameter_of deck names sc.names pl l ≡ Val.gives (record { at = prm.address; type = prm.value_type }) = rw fi.spelled (sym pi.is ∙ rw f) in
      let ag : (Ev.parameters (owner_at pl) ns nw ≡ Val.gives qs) × (record { at = prm.address; type = prm.value_type } ≡ q₀) = and_gives (Ev.parameters (owner_at pl) ns nw) (record { at = prm.address; type = prm.value_type }) q₀ qs (rw g at ak) in
      let cn = cut_next T from to q a ax (en (a ∷ ax) ct) in
      record {
        parameter = q₀;
        others = qs;
        argument₁ = a;
        arguments = ax;
        ns = ns;
        rest_is = refl;
        args_is = refl;
        type_is = sym (ap (λ (v : Ev.Parameter). v.type) ag.1) ∙ rw f;
        placed = rw (f, next_is prm f) fi.others;
        asked = ag.0;
        is = cn.0;
        order = cn.1;
        within = cn.2;
        cut = cn.3;
      }

-- the text of an argument
part_text : (s w : List ℕ) (x : Src) (from to : ℕ) → Within (room_of s w x) x.from x.to → from ≤ to → to < length (text_of s w x) → text_of s w (part_of x from to) ≡ part (to - from) from (text_of s w x)
unfolding text_of stretch_of room_of
part_text s w x from to k h l =
    let z : length (part (x.to - x.from) x.from (cond x.in_work w s)) ≡ x.to - x.from = length_part (x.to - x.from) x.from (cond x.in_work w s) in
    let a : sum_to greatest x.from from ≡ x.from + from = sum_fits x.from from (omega (arith, k.short)) in
    let b : sum_to greatest x.from to ≡ x.from + to = sum_fits x.from to (omega (arith, k.short)) in
    let d : x.from + to - (x.from + from) ≡ to - from = omega arith in
    rw (a, b, d) (sym (part_of_part (to - from) from (x.to - x.from) x.from (cond x.in_work w s) (omega arith)))

part_sourced : (s w : List ℕ) (x : Src) (from to u v : ℕ) → Sourced s w x u → u ≤ v → from ≤ to → to < length (text_of s w x) → Sourced s w (part_of x from to) v
unfolding room_of
part_sourced s w x from to u v k g h l =
    let z : length (text_of s w x) ≡ x.to - x.from = text_length s w x in
    let a : sum_to greatest x.from from ≡ x.from + from = sum_fits x.from from (omega (arith, k.within.short)) in
    let b : sum_to greatest x.from to ≡ x.from + to = sum_fits x.from to (omega (arith, k.within.short)) in
    record { within = record { order = omega arith; within = omega (arith, k.within.within); short = omega (arith, k.within.short) }; below = λ e. omega (arith, k.below e) }

-- ---- scanned, then converted: one bind
abbrev following : Scene → ℕ → List ℕ → List Ev.Parameter → List Argument → ℕ → Val.Value → World → Res Why (List Val.Value)
following sc n T qs ax top k v = bind (D.scan_arguments (scanner_in sc n) T qs ax (top + Val.size_of k) v) (λ ys r. good (k ∷ ys) r)

pub step_is : (B : World) (sc : Scene) (n top : ℕ) (T w t c l h w₁ t₁ w₂ : List ℕ) (W₁ : World) (zz : Scanned) (v : Evaluated) (q₀ : Ev.Parameter) (qs : List Ev.Parameter) (from to : ℕ) (ax : List Argument) (ty : ValueType)
    → q₀.type ≡ ty → Came B into_work top w t c l h w₁ t₁ zz (scanner_in sc n (D.to_work 512) (part (to - from) from T) top W₁) → res_in B c l h w₂ top v ≡ converted_for zz top ty B c l h w₁
    → D.scan_arguments (scanner_in sc n) T (q₀ ∷ qs) (argument from to ∷ ax) top W₁ ≡ bind (res_in B c l h w₂ top v) (following sc n T qs ax top)
unfolding D.scan_arguments converted_by
step_is B sc n top T w t c l h w₁ t₁ w₂ W₁ (Ok (k, m)) v q₀ qs from to ax ty e cm f =
    let a : scanner_in sc n (D.to_work 512) (part (to - from) from T) top W₁ ≡ good (part k top w₁) (world_in B c l h m.used) = sym cm.is ∙ ap (λ (y : List ℕ). good y (world_in B c l h m.used)) (out_work into_work t₁ w₁ top k refl) in
    rw (a, e, f, put_is)
step_is B sc n top T w t c l h w₁ t₁ w₂ W₁ (Err (y, m)) v q₀ qs from to ax ty e cm f = rw (← cm.is, f)

-- ---- the value that is held
small_of : (z : ℤ) (a : Val.Answer ℤ) → Gives Small a → a ≡ Val.gives z → Small z
small_of z _ (given {a} h) e = let f : a ≡ z = cc in rw (← f) h
small_of z _ failed e = never _ (cc)

pub record Kept (w : List ℕ) (held : Held) (i top : ℕ) (ty : ValueType) (val : Value) : Type 0 where
  pub is : held_in w held i top ty ≡ value_in w top val
  pub size : held_size held i ty ≡ size_for val
  pub short : size_for val ≤ 512

kept_fixed : (w : List ℕ) (held : Held) (i top : ℕ) (val : Value) (z : ℤ) → Small z → value_in w top val ≡ Val.fixed z → held_at held i ≡ held_number val → Kept w held i top FixedType val
unfolding value_in size_for fixed_in
kept_fixed w held i top (Number y) z h e f =
    let g : y.value ≡ z = cc in
    record { is = ap Val.fixed (rw (f, g, stored_back z h)); size = refl; short = omega arith }
kept_fixed w held i top (Characters k) z h e f = never _ (cc)
kept_fixed w held i top (Bits k) z h e f = never _ (cc)

kept_text : (w : List ℕ) (held : Held) (i top : ℕ) (val : Value) (l : List ℕ) → length l ≤ 512 → value_in w top val ≡ Val.characters l → held_at held i ≡ held_number val → Kept w held i top CharacterType val
unfolding value_in size_for
kept_text w held i top (Number y) l h e f = never _ (cc)
kept_text w held i top (Characters k) l h e f =
    let g : part k top w ≡ l = cc in
    let a : k ≤ 512 = omega (arith, ap length g, length_part k top w) in
    let b : held_at held i ≡ k = f ∙ mod-eq_of_lt (omega arith) in
    record { is = ap Val.characters (rw b); size = b; short = a }
kept_text w held i top (Bits k) l h e f = never _ (cc)

-- an argument of a parameter's type, at most 512 bytes of text, is held as it is
pub kept_of : (w : List ℕ) (held : Held) (i top : ℕ) (ty : ValueType) (val : Value) (l : List ℕ) → length l ≤ 512 → Val.gives (value_in w top val) ≡ converted_by top ty l → held_at held i ≡ held_number val → Kept w held i top ty val
unfolding converted_by stacked Val.convert Val.unfinished Val.to_characters
kept_of w held i top FixedType val l h e f = by (Val.to_fixed (Val.characters l)) (λ z g. small_of z (Val.to_fixed (Val.characters l)) (to_fixed_small (Val.characters l) h) g) refl e
  where
    in_room : (z : ℤ) → Small z → (b : Bool) → Val.gives (value_in w top val) ≡ cond b (Val.gives (Val.fixed z)) (Val.fails TooLong) → Kept w held i top FixedType val
    in_room z k true g = let j : value_in w top val ≡ Val.fixed z = cc in kept_fixed w held i top val z k j f
    in_room z k false g = never _ (cc)

    by : (a : Val.Answer ℤ) → ((z : ℤ) → Val.to_fixed (Val.characters l) ≡ Val.gives z → Small z) → Val.to_fixed (Val.characters l) ≡ a → Val.gives (value_in w top val) ≡ Val.and_then (Val.and_then a (λ z. Val.gives (Val.fixed z))) (Val.unfinished top) → Kept w held i top FixedType val
    by (Val.gives z) k g j = in_room z (k z g) (leb (top + 0) 65536) j
    by (Val.fails y) k g j = never _ (cc)
kept_of w held i top CharacterType val l h e f = in_room (leb (top + length l) 65536) e
  where
    in_room : (b : Bool) → Val.gives (value_in w top val) ≡ cond b (Val.gives (Val.characters l)) (Val.fails TooLong) → Kept w held i top CharacterType val
    in_room true g = let j : value_in w top val ≡ Val.characters l = cc in kept_text w held i top val l h j f
    in_room false g = never _ (cc)

-- ---- one argument is scanned and converted
came_fits : (B : World) (top : ℕ) (w t c l h w' t' : List ℕ) (k : Scanned) (R : Res Why (List ℕ)) → Came B into_work top w t c l h w' t' k R → TextFits k top
came_fits B top w t c l h w' t' (Ok (j, m)) R g = g.put.fits refl
came_fits B top w t c l h w' t' (Err (y, m)) R g = tt

pub record One (top : ℕ) (ty : ValueType) (w : List ℕ) (val : Value) (t t' : List ℕ) : Type 0 where
  pub bytes : List ℕ
  pub short : length bytes ≤ 512
  pub is : Val.gives (value_in w top val) ≡ converted_by top ty bytes
  pub text : t' ≡ t

ask_good : (a : Val.Answer Val.Value) (x : Val.Value) (w w' : World) → good x w ≡ ask a w' → Val.gives x ≡ a
ask_good (Val.gives b) x w w' e = let f : x ≡ b = cc in ap Val.gives f
ask_good (Val.fails y) x w w' e = never _ (cc)

one_of : (B : World) (top : ℕ) (w t c l h w₁ t₁ w₂ : List ℕ) (k : Scanned) (R : Res Why (List ℕ)) (ty : ValueType) (val : Value) (m : Meter) → Came B into_work top w t c l h w₁ t₁ k R
    → good (value_in w₂ top val) (world_in B c l h m.used) ≡ converted_for k top ty B c l h w₁ → One top ty w₂ val t t₁
one_of B top w t c l h w₁ t₁ w₂ (Ok (j, k)) R ty val m g e = record {
  bytes = part j top w₁;
  short = omega (arith, length_part j top w₁, g.put.room);
  is = ask_good (converted_by top ty (part j top w₁)) (value_in w₂ top val) (world_in B c l h m.used) (world_in B c l h k.used) e;
  text = g.put.text ∙ with_work into_work (out_in into_work t₁ w₁ top j) t refl;
}
one_of B top w t c l h w₁ t₁ w₂ (Err (y, k)) R ty val m g e = never _ (cc)

-- what is put among those that wait fits there
stacked_fits : (top : ℕ) (a : Val.Answer Val.Value) (x : Val.Value) → Val.gives x ≡ stacked top a → top + Val.size_of x ≤ 65536
unfolding stacked Val.unfinished
stacked_fits top (Val.fails y) x e = never _ (cc)
stacked_fits top (Val.gives v) x e = by (leb (top + Val.size_of v) 65536) refl e
  where
    by : (b : Bool) → leb (top + Val.size_of v) 65536 ≡ b → Val.gives x ≡ cond b (Val.gives v) (Val.fails TooLong) → top + Val.size_of x ≤ 65536
    by true f g = let j : x ≡ v = cc in omega (arith, leb-true (top + Val.size_of v) 65536 f, ap Val.size_of j)
    by false f g = never _ (cc)

one_fits : (top : ℕ) (ty : ValueType) (w : List ℕ) (val : Value) (t t' : List ℕ) → One top ty w val t t' → top + size_for val ≤ 65536
unfolding converted_by
one_fits top ty w val t t' k = omega (arith, stacked_fits top (Val.convert ty (Val.characters k.bytes)) (value_in w top val) k.is, size_is w top val)

bind_more : (R : Res Why (List Val.Value)) (a : Val.Value) (xs : List Val.Value) → bind R (λ ys r. good ((xs ++ a ∷ []) ++ ys) r) ≡ bind (bind R (λ ys r. good (a ∷ ys) r)) (λ ys r. good (xs ++ ys) r)
bind_more (good ys w) a xs = ap (λ (k : List Val.Value). good k w) (append_one xs ys a)
bind_more (bad y n) a xs = refl

-- ---- a turn: what it has in hand
module _ (deck s rows names c₀ l₀ h₀ w₀ t₀ : List ℕ) (x : Src) (first u n : ℕ) (sc : Scene) (m₀ : Meter) (z : Callee) (held : Held) (from at top : ℕ) (m : Meter) (i : ℕ) (c l h w t : List ℕ)
    (ar : Arguing deck s rows names c₀ l₀ h₀ w₀ t₀ x first u n sc m₀ z.place z.list z.count held from at top m i c l h w t) (go : i < z.count)
    (bd : List ℕ) (eb : bd ≡ body_in deck z.place.member) (pa : Option Parameter) (pi : ParameterIs deck bd names sc.names z.place at pa) (to : ℕ) (en : EndIn (room_of s w x) x.from x.to from to)
    (px : Src) (ex : px ≡ part_of x from to) (dw : Dest) (ed : dw ≡ into_work) (c₁ l₁ h₁ w₁ t₁ : List ℕ) (sd : Scanned) (sn : Scans deck s rows names c l h w t px dw top n sc m c₁ l₁ h₁ w₁ t₁ sd)
    (ty : ValueType) (et : ty ≡ type_for pa) (w₂ : List ℕ) (v : Evaluated) (cv : ConvertedIs w₁ top ty sd w₂ v) (e₂ : length w₂ ≡ length w₁) where
  module _ (B : World) (o : Dest) (g : Stage deck rows names c₀ l₀ h₀ w₀ u sc m₀ t₀ o B) (so : Sourced s w₀ x u) (ps : List Ev.Parameter) (xs : List Argument) (q : ℕ)
      (r : Rest deck s rows names c₀ l₀ h₀ w₀ t₀ x first u n sc m₀ z.place z.list z.count B ps xs q held from at top m i c l h w t) where
    abbrev text : List ℕ
    text = text_of s w₀ x

    abbrev all : Res Why (List Val.Value)
    all = D.scan_arguments (scanner_in sc n) text ps xs u (world_in B c₀ l₀ h₀ m₀.used)

    source_now : text_of s w x ≡ text
    source_now = source_same s w₀ w x u so r.left.below

    sourced_now : Sourced s w x u
    sourced_now = source_still s w₀ w x u u so r.left.work (omega arith)

    ends_here : (ys : List Argument) → cut_from (text_of s w x) from ≡ list_up_to ys q → Ends (text_of s w x) from to ys q
    unfolding text_of
    ends_here ys e = en.is sourced_now.within ys q e

    ends : (ys : List Argument) → cut_from text from ≡ list_up_to ys q → Ends text from to ys q
    ends ys e = subst (λ (k : List ℕ). Ends k from to ys q) source_now (ends_here ys (ap (λ (k : List ℕ). cut_from k from) source_now ∙ e))

    head : Head deck names sc z.place text pa from at to q r.rest r.args
    head = head_by deck names sc z.place text pa from at to q (rw eb at pi) r.rest r.args r.ns (omega (arith, r.turn)) r.sized r.placed r.asked r.cut ends pa refl

    low : u ≤ top
    low = omega (arith, r.top_is, end_low held 0 u r.done)

    came : Came B into_work top w t c₁ l₁ h₁ w₁ t₁ sd (scanner_in sc n (D.to_work 512) (part (to - from) from text) top (world_in B c l h m.used))
    unfolding into_of
    came =
        let no : Aims t into_work = record { room = λ f. never _ (let k : true ≡ false = f in cc); short = λ f. never _ (let k : true ≡ false = f in cc) } in
        let st : Stage deck rows names c l h w top sc m t into_work B = stage_on deck rows names c₀ l₀ h₀ w₀ u sc m₀ t₀ o B c l h w top m t into_work g r.left.slots r.left.work r.fits r.left.limit no in
        let lt : to < length (text_of s w x) = omega (arith, ap length source_now, head.within) in
        let sp : Sourced s w (part_of x from to) top = part_sourced s w x from to u top sourced_now low head.order lt in
        let tx : text_of s w (part_of x from to) ≡ part (to - from) from text = part_text s w x from to sourced_now.within head.order lt ∙ ap (part (to - from) from) source_now in
        let s₁ : Scans deck s rows names c l h w t (part_of x from to) into_work top n sc m c₁ l₁ h₁ w₁ t₁ sd = rw (ex, ed) at sn in
        rw tx at (s₁.is B st sp)

    long : 65536 ≤ length w₁
    long = omega (arith, g.shows.work, r.left.work, came.left.work)

    fits : TextFits sd top
    fits = came_fits B top w t c₁ l₁ h₁ w₁ t₁ sd _ came

    step : bind (bind (res_in B c₁ l₁ h₁ w₂ top v) (following sc n text head.others head.arguments top)) (λ ys k. good (held_from w held 0 u r.done ++ ys) k) ≡ all
    step =
        let a : D.scan_arguments (scanner_in sc n) text r.rest r.args top (world_in B c l h m.used) ≡ bind (res_in B c₁ l₁ h₁ w₂ top v) (following sc n text head.others head.arguments top) =
        ap (λ (k : List Ev.Parameter). D.scan_arguments (scanner_in sc n) text k r.args top (world_in B c l h m.used)) head.rest_is
        ∙ ap (λ (k : List Argument). D.scan_arguments (scanner_in sc n) text (head.parameter ∷ head.others) k top (world_in B c l h m.used)) (head.args_is ∙ ap (λ (k : Argument). k ∷ head.arguments) head.is)
        ∙ step_is B sc n top text w t c₁ l₁ h₁ w₁ t₁ w₂ (world_in B c l h m.used) sd v head.parameter head.others from to head.arguments ty (head.type_is ∙ sym et) came (cv.is long fits B c₁ l₁ h₁) in
        ap (λ (k : Res Why (List Val.Value)). bind k (λ ys y. good (held_from w held 0 u r.done ++ ys) y)) (sym a) ∙ r.same

    left_on : (k : Meter) → k ≡ meter_of sd → Left B u w₀ t₀ c₁ l₁ h₁ w₂ t₁ k
    left_on k e = record {
      below = below_less u top w₁ w₂ low (cv.below long fits) ∙ below_less u top w w₁ low came.left.below ∙ r.left.below;
      work = e₂ ∙ came.left.work ∙ r.left.work;
      long = came.left.long ∙ r.left.long;
      limit = ap (λ (y : Meter). y.limit) e ∙ came.left.limit;
      slots = came.left.slots;
    }

    failed_by : (y : Why) (k : Meter) → v ≡ Err (y, k) → Taking B u w₀ t₀ c₁ l₁ h₁ w₂ t₁ ps (Err (y, k)) all
    failed_by y k e = record { is = sym (ap (λ (a : Evaluated). bind (bind (res_in B c₁ l₁ h₁ w₂ top a) (following sc n text head.others head.arguments top)) (λ ys y. good (held_from w held 0 u r.done ++ ys) y)) e) ∙ step; waits = tt; left = left_on k (ap meter_for (sym e) ∙ cv.meter); text = tt }

    module _ (val : Value) (d : ℕ) (k : Meter) (e : v ≡ Ok (val, d, k)) (held₂ : Held) (hw : HeldWith held i val held₂) where
      one : One top ty w₂ val t t₁
      one = one_of B top w t c₁ l₁ h₁ w₁ t₁ w₂ sd _ ty val k came (rw e at (cv.is long fits B c₁ l₁ h₁))

      i_low : i < 256
      i_low = omega (arith, r.few)

      kept : Kept w₂ held₂ i top head.parameter.type val
      kept = rw (head.type_is ∙ sym et) (kept_of w₂ held₂ i top ty val one.bytes one.short one.is (held_here held held₂ i val hw i_low r.size))

      behind : take top w₂ ≡ take top w
      behind = cv.below long fits ∙ came.left.below

      number_low : 0 + length r.done ≤ i
      number_low = omega (arith, r.number)

      end_is : held_end held₂ 0 u r.done ≡ top
      end_is = end_there held held₂ i val hw i_low r.size 0 u r.done number_low ∙ sym r.top_is

      count_is : 0 + length r.done ≡ i
      count_is = omega (arith, r.number)

      held_is : held_from w₂ held₂ 0 u (r.done ++ head.parameter ∷ []) ≡ held_from w held 0 u r.done ++ value_in w₂ top val ∷ []
      held_is =
          from_more w₂ held₂ 0 u r.done head.parameter
          ∙ ap (λ (y : List Val.Value). y ++ held_in w₂ held₂ (0 + length r.done) (held_end held₂ 0 u r.done) head.parameter.type ∷ []) (from_there held held₂ i val hw i_low r.size w w₂ top 0 u r.done number_low behind (omega (arith, r.top_is)))
          ∙ ap (λ (y : ℕ). held_from w held 0 u r.done ++ held_in w₂ held₂ y (held_end held₂ 0 u r.done) head.parameter.type ∷ []) count_is
          ∙ ap (λ (y : ℕ). held_from w held 0 u r.done ++ held_in w₂ held₂ i y head.parameter.type ∷ []) end_is
          ∙ ap (λ (y : Val.Value). held_from w held 0 u r.done ++ y ∷ []) kept.is

      size_at : held_size held₂ (0 + length r.done) head.parameter.type ≡ size_for val
      size_at = ap (λ (y : ℕ). held_size held₂ y head.parameter.type) count_is ∙ kept.size

      top_fits : top + size_for val ≤ 65536
      top_fits = one_fits top ty w₂ val t t₁ one

      more_by : (top₂ from₂ at₂ : ℕ) → top₂ ≡ top_of top (size_for val) → from₂ ≡ sum_to greatest to 1 → at₂ ≡ next_for pa at
          → Rest deck s rows names c₀ l₀ h₀ w₀ t₀ x first u n sc m₀ z.place z.list z.count B ps xs q held₂ from₂ at₂ top₂ k (i + 1) c₁ l₁ h₁ w₂ t₁
      more_by top₂ from₂ at₂ it fi ia =
          let jt : top₂ ≡ top + size_for val = it ∙ top_in_lem top (size_for val) top_fits in
          let jf : from₂ ≡ to + 1 = fi ∙ sum_fits to 1 (omega (arith, head.within, text_length s w₀ x, so.within.short)) in
          let rl : length r.rest ≡ suc (length head.others) = ap (λ (y : List Ev.Parameter). length y) head.rest_is in
          let al : length r.args ≡ suc (length head.arguments) = ap (λ (y : List Argument). length y) head.args_is in
          let ts : top₂ ≡ top + Val.size_of (value_in w₂ top val) = omega (arith, size_is w₂ top val) in
          record {
            done = r.done ++ head.parameter ∷ [];
            rest = head.others;
            args = head.arguments;
            ns = head.ns;
            all = append_one r.done head.others head.parameter ∙ ap (λ (y : List Ev.Parameter). r.done ++ y) (sym head.rest_is) ∙ r.all;
            number = omega (arith, length_one r.done head.parameter, r.number);
            turn = omega (arith, r.turn, rl);
            few = r.few;
            size = ap (λ (y : List ℕ). length y) (hw.is i_low) ∙ length-set held.numbers i (held_number val) ∙ r.size;
            placed = rw ia head.placed;
            asked = head.asked;
            sized = omega (arith, r.sized);
            cut = rw jf head.cut;
            top_is = jt ∙ sym (end_more held₂ 0 u r.done head.parameter ∙ ap (λ (y : ℕ). y + held_size held₂ (0 + length r.done) head.parameter.type) end_is ∙ ap (λ (y : ℕ). top + y) size_at);
            waits = waiting_more held₂ 0 u r.done head.parameter (waiting_there held held₂ i val hw i_low r.size 0 u r.done number_low r.waits) (omega (arith, size_at, kept.short)) (omega (arith, size_at, end_is, top_fits));
            fits = omega (arith, top_fits);
            same =
                ap (λ (y : List Val.Value). bind (D.scan_arguments (scanner_in sc n) text head.others head.arguments top₂ (world_in B c₁ l₁ h₁ k.used)) (λ ys a. good (y ++ ys) a)) held_is
                ∙ ap (λ (y : ℕ). bind (D.scan_arguments (scanner_in sc n) text head.others head.arguments y (world_in B c₁ l₁ h₁ k.used)) (λ ys a. good ((held_from w held 0 u r.done ++ value_in w₂ top val ∷ []) ++ ys) a)) ts
                ∙ bind_more (D.scan_arguments (scanner_in sc n) text head.others head.arguments (top + Val.size_of (value_in w₂ top val)) (world_in B c₁ l₁ h₁ k.used)) (value_in w₂ top val) (held_from w held 0 u r.done)
                ∙ sym (ap (λ (a : Evaluated). bind (bind (res_in B c₁ l₁ h₁ w₂ top a) (following sc n text head.others head.arguments top)) (λ ys y. good (held_from w held 0 u r.done ++ ys) y)) e) ∙ step;
            left = left_on k (ap meter_for (sym e) ∙ cv.meter);
            text = one.text ∙ r.text;
          }

  pub arguing_failed : (y : Why) (k : Meter) → v ≡ Err (y, k) → TakenIs deck s rows names c₀ l₀ h₀ w₀ t₀ x first z u n sc m₀ c₁ l₁ h₁ w₂ t₁ (Err (y, k))
  arguing_failed y k e = record { is = λ B o g so b cs xs q sz ct. failed_by B o g so b.parameters xs q (rest_of deck s rows names c₀ l₀ h₀ w₀ t₀ x first u n sc m₀ z held from at top m i c l h w t ar B o g so b cs xs q sz ct) y k e }

  pub arguing_more : (val : Value) (d : ℕ) (k : Meter) (held₂ : Held) (sz top₂ from₂ at₂ : ℕ) → v ≡ Ok (val, d, k) → HeldWith held i val held₂ → sz ≡ size_for val → top₂ ≡ top_of top sz → from₂ ≡ sum_to greatest to 1 → at₂ ≡ next_for pa at
      → Arguing deck s rows names c₀ l₀ h₀ w₀ t₀ x first u n sc m₀ z.place z.list z.count held₂ from₂ at₂ top₂ k (i + 1) c₁ l₁ h₁ w₂ t₁
  arguing_more val d k held₂ sz top₂ from₂ at₂ e hw is it fi ia = record {
    so = λ B o g so ns ps xs q nm ak co fw sz₁ ct. more_by B o g so ps xs q (ar.so B o g so ns ps xs q nm ak co fw sz₁ ct) val d k e held₂ hw top₂ from₂ at₂ (it ∙ ap (top_of top) is) fi ia;
  }
