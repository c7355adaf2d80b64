-- THE ROWS of a member, one turn after the other: every turn that goes on takes a step, so that the turns are enough. Then the member,
-- with its leading text.
-- Assumes nothing.
use Rattle.texts.specs.Types.{Ran}
use Rattle.std.proofs.Common.{Option, Some, None, Ok, Err, Result}
use mathlib.Core.Path.{◌≡◌, refl, sym, ap, subst, ◌∙◌}
use mathlib.Core.Bool.{Bool, true, false}
use mathlib.Core.List.{List, []}
use Prim.Native.Nat.{ℕ, zero, suc, ◌-◌, ◌<◌, ◌≤◌}
use native.Mathlib.Omega.{arith}
use borrow.Author.Tests.{le-ltb}
use lib.ListN.{length}
use Rattle.definition.specs.Bytes.{mixed}
use Rattle.definition.specs.Steps.{is_left}
use Rattle.definition.specs.Program as P
use Rattle.definition.specs.Reading.{read_member}
use Rattle.definition.specs.World.{World, Denotation, Entered, Res, good, bad, bind, placed, rows_in, rows_of}
use Rattle.definition.specs.Flow as F
use Rattle.definition.specs.Calls as Calls
use Rattle.definition.specs.Calls.{Place}
use Rattle.definition.specs.Run as Run
use Rattle.definition.specs.Run.{body_of, member_machine}
use Rattle.definition.specs.declared.Why.{Why}
use Rattle.definition.specs.declared.Why.TheVariants.{NoStep}
use Rattle.deck.specs.Answer.{body_in}
use Rattle.rows.specs.declared.Starts.{Starts}
use Rattle.flow.specs.declared.Frames.{Frames}
use Rattle.flow.specs.declared.Next.{Next}
use Rattle.flow.specs.declared.Next.TheVariants.{Begin, Again, Over}
use Rattle.flow.specs.Walks.{no_frames, first_of}
use Rattle.flow.specs.Shown.{next_from, AtNext}
use Rattle.flow.proofs.Framing.{framed_start}
use Rattle.flow.proofs.Arriving.{at_begin, at_over}
use Rattle.callees.specs.Shown.{world_in}
use Rattle.operands.proofs.Trees.{clash}
use Rattle.bodies.proofs.Stepping.{charge_none}
use Rattle.openings.specs.Open.{link_of}
use Rattle.reading.specs.declared.Source.{Source}
use Rattle.showing.specs.Worlds.{Laid}
use Rattle.showing.specs.Later.{Later}
use Rattle.showing.proofs.Turning.{first_read}
use Rattle.showing.proofs.Worlds.{placed_same}
use Rattle.showing.proofs.Laying.{laid_same}
use Rattle.showing.proofs.Later.{later_same}
use Rattle.showing.proofs.Stretches.{Ordered, member_ordered}
use Rattle.leaving.specs.declared.Below.{Below}
use Rattle.leaving.specs.Places.{below_of}
use Rattle.texts.specs.declared.Progress.{Progress}
use Rattle.texts.specs.declared.Here.{Here}
use Rattle.texts.specs.declared.Stop.{Stop}
use Rattle.texts.specs.Shown.{stretch_for, stop_for, After, RanAs, Lies}
use Rattle.texts.specs.Promises.{lead_text, LeadIs}
use Rattle.texts.proofs.Common.{body_size}
use Rattle.stepping.specs.declared.Ended.{Ended}
use Rattle.stepping.specs.declared.Ended.TheVariants as En
use Rattle.stepping.specs.declared.Settled.{Settled}
use Rattle.stepping.specs.declared.Settled.TheVariants as Se
use Rattle.stepping.specs.Stage.{Stage, part_here, machine_of}
use Rattle.stepping.specs.Steps.{EndNow, Nexts, ended_by, SettledNow, SettlesAs, SettleIs}
use Rattle.stepping.specs.Ways.{is_over}
use Rattle.running.specs.declared.Left.{Left}
use Rattle.running.specs.declared.Begun.{Begun}
use Rattle.running.specs.Included.{level_of}
use Rattle.running.specs.Members.{here_at, Since, EndsAs, Running, TurnsAs, TurnIs, RowsAre, SourceOf, SourceIs}
use Rattle.running.specs.Ways.{left_at}
use Rattle.running.proofs.Including.{run_member_is}
use Rattle.running.proofs.Thrift.{Advanced, begin_advances, again_advances}
use Rattle.running.proofs.Afterwards.{since_none, since_same, since_on, stand_later}
use Rattle.running.proofs.Turning.{member_later, running_later, row_here}

-- ---- the definition's turns
run_step : (M : F.Machine Run.Stop) (f : ℕ) (y : F.Next) (G : List F.Frame) (w : World) → F.run_on M (suc f) y G w ≡ F.continued M (F.turn M y G w) (λ a H v. F.run_on M f a H v)
unfolding F.run_on F.turn
run_step M f (F.begin n) G w = refl
run_step M f (F.again g) G w = refl
run_step M f F.no_next G w = refl

run_over : (M : F.Machine Run.Stop) (f : ℕ) (G : List F.Frame) (w : World) → F.run_on M f F.no_next G w ≡ good F.ran w
unfolding F.run_on
run_over M zero G w = refl
run_over M (suc f) G w = refl

not_left : (n k : ℕ) → n - k ≤ 0 → is_left n k ≡ false
unfolding is_left
not_left n k h = le-ltb k n (omega (arith, h))

ended_same : (M : F.Machine Run.Stop) (Q : Res Run.Stop F.End) (k : F.Next → List F.Frame → World → Res Run.Stop F.End) → F.continued M (ended_by Q) k ≡ Q
ended_same M (good x w) k = refl
ended_same M (bad e n) k = refl

-- a turn that ends the run ends it, however many turns are left
module _ (M : F.Machine Run.Stop) (G : List F.Frame) (w : World) (Q : Res Run.Stop F.End) where
  continued_is : (y : F.Next) → F.turn M y G w ≡ ended_by Q → (k : F.Next → List F.Frame → World → Res Run.Stop F.End) → F.continued M (F.turn M y G w) k ≡ Q
  continued_is y e k = ap (λ (i : Res Run.Stop F.Turn). F.continued M i k) e ∙ ended_same M Q k

  none_begins : (n : ℕ) → w.limit - w.used ≤ 0 → F.turn M (F.begin n) G w ≡ bad (M.fault (F.at M n) NoStep) w.used
  unfolding F.turn
  none_begins n h = ap (λ (i : Res Why (Unit {0})). bind (placed (M.fault (F.at M n)) i) (λ _ v. F.statement M (F.at M n).statement G n v)) (charge_none w (not_left w.limit w.used h))

  ends_as : (fuel : ℕ) (y : F.Next) → w.limit - w.used ≤ fuel → F.turn M y G w ≡ ended_by Q → F.run_on M fuel y G w ≡ Q
  unfolding F.run_on F.turn
  ends_as (suc f) y h e = run_step M f y G w ∙ continued_is y e (λ a H v. F.run_on M f a H v)
  ends_as zero (F.begin n) h e = ap (λ (i : Res Run.Stop F.Turn). F.continued M i (λ a H v. bad (M.fault (F.at M n) NoStep) 0)) (sym (none_begins n h)) ∙ continued_is (F.begin n) e (λ a H v. bad (M.fault (F.at M n) NoStep) 0)
  ends_as zero (F.again g) h e = continued_is (F.again g) e (λ a H v. bad (M.fault (F.at M g) NoStep) v.used)
  ends_as zero F.no_next h e = continued_is F.no_next e (λ a H v. good F.ran v)

-- ---- where something is next, there is a row, and a turn that goes on takes a step
module _ (deck : List ℕ) (m left : ℕ) (on : List Place) (t : List ℕ) (ds : List Denotation) (fs : Frames) (G : List F.Frame) where
  abbrev next_machine : F.Machine Run.Stop
  next_machine = machine_of (level_of left deck) deck m on

  some_row : (y : Next) → is_over y ≡ false → AtNext next_machine t ds fs G y → (n : ℕ) × (n < length next_machine.rows)
  some_row (Begin n) e at = (n, (at.begin n refl).within)
  some_row (Again n) e at = (n, (at.again n refl).within)
  some_row Over e at = clash (cc)

  turn_advances : (y : Next) → is_over y ≡ false → AtNext next_machine t ds fs G y → (w : World) (a : F.Turn) (v : World) → F.turn next_machine (next_from y) G w ≡ good a v → Advanced w v
  turn_advances (Begin n) e at w a v q = begin_advances deck left m on n G w a v q
  turn_advances (Again g) e at w a v q = again_advances deck left m on g (at.again g refl).own.frame G w (at.again g refl).own.newest a v q
  turn_advances Over e at w a v q = clash (cc)

over_is : (y : Next) → is_over y ≡ true → next_from y ≡ F.no_next
over_is (Begin n) e = clash (cc)
over_is (Again n) e = clash (cc)
over_is Over e = refl

-- ---- THE LOOP. rows₀ to ls₀ and g₀ are the rooms and the numbers that the rows began with
module _ (deck s rows₀ names₀ c₀ l₀ h₀ w₀ t₀ ls₀ : List ℕ) (x₀ : Next) (below : Below) (start : Here) (left : ℕ) (g₀ : Progress) where
  abbrev machine : F.Machine Run.Stop
  machine = machine_of (level_of left deck) deck start.member (below_of below)

  abbrev whole : World → Res Run.Stop F.End
  whole B = F.run_on machine (B.limit - g₀.meter.used) (next_from x₀) [] (world_in B c₀ l₀ h₀ g₀.meter.used)

  abbrev mine : Starts → Here
  mine starts = here_at start.member starts

  -- what is left of the definition's run is the whole of it
  pub record Going (B : World) (turns : ℕ) (y : Next) (fs : Frames) (starts : Starts) (g : Progress) (rows names c l h w t ls : List ℕ) : Type 0 where
    pub world : World
    pub since : Since rows₀ B rows world
    pub stage : Stage deck rows names c l h w t ls starts g world
    pub running : Running deck s rows (mine starts) below left world
    pub frames : List F.Frame
    pub fuel : ℕ
    pub turns_are : turns ≡ suc fuel
    pub enough : world.limit - g.meter.used ≤ fuel
    pub same : F.run_on machine fuel (next_from y) frames (world_in world c l h g.meter.used) ≡ whole B
    pub at : AtNext machine (part_here rows (mine starts)) world.denotations fs frames y

  pub record Runs (turns : ℕ) (y : Next) (fs : Frames) (here : Here) (g : Progress) (rows names c l h w t ls : List ℕ) : Type 0 where
    pub is : (B : World) → Stage deck rows₀ names₀ c₀ l₀ h₀ w₀ t₀ ls₀ start.starts g₀ B → Running deck (body_in deck start.member) rows₀ start below left B → AtNext machine (part_here rows₀ start) B.denotations no_frames [] x₀
        → Going B turns y fs here.starts g rows names c l h w t ls
    pub member : here.member ≡ start.member

  pub runs_start : s ≡ body_in deck start.member → (fs : Frames) → fs ≡ no_frames → (k : ℕ) → k ≡ suc (g₀.meter.limit - g₀.meter.used) → Runs k x₀ fs start g₀ rows₀ names₀ c₀ l₀ h₀ w₀ t₀ ls₀
  runs_start es fs ef k ek = record {
    is = λ B st ru at. record {
      world = B;
      since = since_none rows₀ B;
      stage = st;
      running = subst (λ (i : List ℕ). Running deck i rows₀ start below left B) (sym es) ru;
      frames = [];
      fuel = B.limit - g₀.meter.used;
      turns_are = ek ∙ ap (λ (i : ℕ). suc (i - g₀.meter.used)) st.onstage.shows.limit;
      enough = omega arith;
      same = refl;
      at = subst (λ (i : Frames). AtNext machine (part_here rows₀ start) B.denotations i [] x₀) (sym ef) at;
    };
    member = refl;
  }

  module _ (turns : ℕ) (y : Next) (fs : Frames) (here : Here) (g : Progress) (rows names c l h w t ls : List ℕ) (ru : Runs turns y fs here g rows names c l h w t ls) where
    here_is : here ≡ mine here.starts
    here_is = ap (λ (i : ℕ). here_at i here.starts) ru.member

    -- the turns do not run out
    pub runs_out : turns ≤ 0 → (r : Left) → RowsAre deck rows₀ names₀ c₀ l₀ h₀ w₀ t₀ ls₀ x₀ below start left g₀ rows names c l h w t ls r
    runs_out z r = record { is = λ B st rn at. absurd (omega (arith, z, (ru.is B st rn at).turns_are)) }

    -- nothing is next
    pub runs_over : (b : Bool) → b ≡ is_over y → b ≡ true → (r : Left) → r ≡ left_at here (Ok (En.Ran g)) → RowsAre deck rows₀ names₀ c₀ l₀ h₀ w₀ t₀ ls₀ x₀ below start left g₀ rows names c l h w t ls r
    runs_over b eb e r er = rw er record {
      is = λ B st rn at.
          let go : Going B turns y fs here.starts g rows names c l h w t ls = ru.is B st rn at in
          let done : F.run_on machine go.fuel (next_from y) go.frames (world_in go.world c l h g.meter.used) ≡ good F.ran (world_in go.world c l h g.meter.used) =
          ap (λ (i : F.Next). F.run_on machine go.fuel i go.frames (world_in go.world c l h g.meter.used)) (over_is y (sym eb ∙ e)) ∙ run_over machine go.fuel go.frames (world_in go.world c l h g.meter.used) in
          record { world = go.world; since = go.since; now = record { stage = go.stage; is = sym go.same ∙ done } };
    }

    -- a turn, and what comes of it
    module _ (b : Bool) (eb : b ≡ is_over y) (e : b ≡ false) (rows₁ names₁ c₁ l₁ h₁ w₁ t₁ ls₁ : List ℕ) (z : Begun) (ti : TurnIs deck s rows names c l h w t ls fs y below here left g rows₁ names₁ c₁ l₁ h₁ w₁ t₁ ls₁ z)
        (here₁ : Here) (eh : here₁ ≡ here_at here.member z.starts) (c₂ l₂ h₂ w₂ t₂ ls₂ : List ℕ) (a : Settled)
        (se : SettleIs deck s rows₁ names₁ c₁ l₁ h₁ w₁ t₁ ls₁ z.turned.frames z.turned.step here₁ c₂ l₂ h₂ w₂ t₂ ls₂ a) where
      more_next : is_over y ≡ false
      more_next = sym eb ∙ e

      here_next : here₁ ≡ mine z.starts
      here_next = eh ∙ ap (λ (i : ℕ). here_at i z.starts) ru.member

      module _ (B : World) (st : Stage deck rows₀ names₀ c₀ l₀ h₀ w₀ t₀ ls₀ start.starts g₀ B) (rn : Running deck (body_in deck start.member) rows₀ start below left B) (at : AtNext machine (part_here rows₀ start) B.denotations no_frames [] x₀) where
        go : Going B turns y fs here.starts g rows names c l h w t ls
        go = ru.is B st rn at

        abbrev before : World
        before = world_in go.world c l h g.meter.used

        abbrev turned : Res Run.Stop F.Turn
        turned = F.turn machine (next_from y) go.frames before

        done : TurnsAs machine (below_of below) deck rows go.world rows₁ names₁ c₁ l₁ h₁ w₁ t₁ ls₁ (mine here.starts) turned z
        done = (subst (λ (i : Here). TurnIs deck s rows names c l h w t ls fs y below i left g rows₁ names₁ c₁ l₁ h₁ w₁ t₁ ls₁ z) here_is ti).is go.world go.stage go.running go.frames go.at more_next

        some : (n : ℕ) × (n < length (rows_of start.member go.world))
        some =
            let one : (n : ℕ) × (n < length machine.rows) = some_row deck start.member left (below_of below) (part_here rows (mine here.starts)) go.world.denotations fs go.frames y more_next go.at in
            (one.0, row_here deck s rows names c l h w t ls (mine here.starts) g go.world go.stage go.running.member (level_of left deck) (below_of below) one.0 one.1)

        settled : SettlesAs machine (below_of below) deck rows₁ names₁ c₂ l₂ h₂ w₂ t₂ ls₂ (mine z.starts) z.turned.frames turned done.world a
        settled =
            (subst (λ (i : Here). SettleIs deck s rows₁ names₁ c₁ l₁ h₁ w₁ t₁ ls₁ z.turned.frames z.turned.step i c₂ l₂ h₂ w₂ t₂ ls₂ a) here_next se).is done.world
            (member_later deck s rows rows₁ (mine here.starts) z.starts go.world done.world some.0 go.running.member done.since.later some.1) (level_of left deck) (below_of below) turned done.now

        since_then : Since rows go.world rows₁ settled.world
        since_then = since_on rows rows₁ rows₁ go.world done.world settled.world done.since (since_same rows₁ done.world settled.world settled.later settled.sentences)

        since_first : Since rows₀ B rows₁ settled.world
        since_first = since_on rows₀ rows rows₁ B go.world settled.world go.since since_then

        running_then : Running deck s rows₁ (mine z.starts) below left settled.world
        running_then = running_later deck s rows rows₁ (mine here.starts) z.starts below left go.world settled.world some.0 go.running since_then.later some.1

        -- it goes on: the turns left are one less
        module _ (v : Next) (g₂ : Progress) (nx : Nexts machine deck rows₁ names₁ c₂ l₂ h₂ w₂ t₂ ls₂ (mine z.starts) z.turned.frames v g₂ turned settled.world) where
          abbrev after : World
          after = world_in settled.world c₂ l₂ h₂ g₂.meter.used

          advanced : Advanced before after
          advanced = turn_advances deck start.member left (below_of below) (part_here rows (mine here.starts)) go.world.denotations fs go.frames y more_next go.at before (F.on (next_from v) nx.frames) after nx.is

          going : (f : ℕ) → go.fuel ≡ f → Going B (turns - 1) v z.turned.frames z.starts g₂ rows₁ names₁ c₂ l₂ h₂ w₂ t₂ ls₂
          going zero ef = absurd (omega (arith, go.enough, ef, advanced.spent))
          going (suc f) ef = record {
            world = settled.world;
            since = since_first;
            stage = nx.stage;
            running = running_then;
            frames = nx.frames;
            fuel = f;
            turns_are = omega (arith, go.turns_are, ef);
            enough = omega (arith, go.enough, ef, advanced.same, advanced.spent);
            same = ap (λ (i : Res Run.Stop F.Turn). F.continued machine i (λ j H u. F.run_on machine f j H u)) (sym nx.is) ∙ sym (run_step machine f (next_from y) go.frames before) ∙ ap (λ (i : ℕ). F.run_on machine i (next_from y) go.frames before) (sym ef) ∙ go.same;
            at = nx.at;
          }

        -- it ends
        ended : (q : Result Ended (Stop × Progress)) (Q : Res Run.Stop F.End) → turned ≡ ended_by Q → EndNow (below_of below) deck rows₁ names₁ c₂ l₂ h₂ w₂ t₂ ls₂ (mine z.starts) Q settled.world q
            → EndsAs (below_of below) deck rows₀ B rows₁ names₁ c₂ l₂ h₂ w₂ t₂ ls₂ start.member (whole B) (left_at (mine z.starts) q)
        ended q Q f k =
            let is : Q ≡ whole B = sym (ends_as machine go.frames before Q go.fuel (next_from y) go.enough f) ∙ go.same in
            record { world = settled.world; since = since_first; now = subst (λ (i : Res Run.Stop F.End). EndNow (below_of below) deck rows₁ names₁ c₂ l₂ h₂ w₂ t₂ ls₂ (mine z.starts) i settled.world q) is k }

      pub runs_more : (v : Next) (g₂ : Progress) → a ≡ Se.On v g₂ → (fewer : ℕ) → fewer ≡ turns - 1 → Runs fewer v z.turned.frames here₁ g₂ rows₁ names₁ c₂ l₂ h₂ w₂ t₂ ls₂
      runs_more v g₂ ea fewer ef = rw (ef, here_next) record {
        is = λ B st rn at. going B st rn at v g₂ (subst (λ (i : Settled). SettledNow machine (below_of below) deck rows₁ names₁ c₂ l₂ h₂ w₂ t₂ ls₂ (mine z.starts) z.turned.frames (turned B st rn at) (settled B st rn at).world i) ea (settled B st rn at).now) (go B st rn at).fuel refl;
        member = refl;
      }

      pub runs_end : (q : Result Ended (Stop × Progress)) → a ≡ Se.End q → (r : Left) → r ≡ left_at here₁ q → RowsAre deck rows₀ names₀ c₀ l₀ h₀ w₀ t₀ ls₀ x₀ below start left g₀ rows₁ names₁ c₂ l₂ h₂ w₂ t₂ ls₂ r
      runs_end q ea r er = rw (er, here_next) record {
        is = λ B st rn at.
            let k : (Q : Res Run.Stop F.End) × (turned B st rn at ≡ ended_by Q) × EndNow (below_of below) deck rows₁ names₁ c₂ l₂ h₂ w₂ t₂ ls₂ (mine z.starts) Q (settled B st rn at).world q =
            subst (λ (i : Settled). SettledNow machine (below_of below) deck rows₁ names₁ c₂ l₂ h₂ w₂ t₂ ls₂ (mine z.starts) z.turned.frames (turned B st rn at) (settled B st rn at).world i) ea (settled B st rn at).now in
            ended B st rn at q k.0 k.1 k.2;
      }

-- ---- THE MEMBER: its leading text, then its rows
lead_is : (inner : Run.Level) (deck : List ℕ) (m : ℕ) (on : List Place) (x : P.Stretch) (w : World) → F.lead_out (machine_of inner deck m on) x w ≡ lead_text m (body_of deck m) x w
unfolding F.lead_out lead_text member_machine
lead_is inner deck m on x w = refl

first_is : (a : Option ℕ) → next_from (first_of a) ≡ Calls.first_of (link_of a)
unfolding first_of
first_is None = refl
first_is (Some n) = refl

first_at : (inner : Run.Level) (deck : List ℕ) (m : ℕ) (on : List Place) (t : List ℕ) (ds : List Denotation) (a : Option ℕ) → link_of a ≡ (read_member mixed (body_of deck m)).first → AtNext (machine_of inner deck m on) t ds no_frames [] (first_of a)
unfolding first_of member_machine
first_at inner deck m on t ds None e = at_over (machine_of inner deck m on) t ds no_frames []
first_at inner deck m on t ds (Some n) e = at_begin (machine_of inner deck m on) t ds no_frames [] n (record { within = (first_read (body_of deck m) n (sym e)).within; framed = framed_start (machine_of inner deck m on) t ds n })

module _ (deck s rows names c l h w t ls : List ℕ) (y : Source) (below : Below) (here : Here) (left : ℕ) (g : Progress) (es : s ≡ body_in deck here.member) (c₁ l₁ h₁ w₁ t₁ ls₁ : List ℕ) (q : Ran)
    (li : LeadIs deck s rows names c l h w t ls y.lead here g c₁ l₁ h₁ w₁ t₁ ls₁ q) where
  abbrev member : F.Machine Run.Stop
  member = machine_of (level_of left deck) deck here.member (below_of below)

  abbrev source : P.Source
  source = read_member mixed (body_of deck here.member)

  module _ (B : World) (st : Stage deck rows names c l h w t ls here.starts g B) (ru : Running deck (body_in deck here.member) rows here below left B) (so : SourceOf source y) where
    abbrev first_world : World
    first_world = world_in B c l h g.meter.used

    body_is : s ≡ body_of deck here.member
    body_is = es ∙ ru.member.whole

    lies : Lies deck here.member s y.lead.from y.lead.to
    lies =
        let o : Ordered s (stretch_for y.lead) = rw (so.lead, body_is) (member_ordered (body_of deck here.member)) in
        record { order = o.order; within = o.within; short = rw es ru.member.short; sized = ap (λ (z : List ℕ). length z) body_is ∙ body_size deck here.member }

    -- what is put out first
    led : RanAs deck rows names here.starts g B c₁ l₁ h₁ w₁ t₁ ls₁ q (F.lead_out member source.lead first_world)
    led =
        let is : lead_text here.member s (stretch_for y.lead) first_world ≡ F.lead_out member source.lead first_world =
        ap (λ (i : List ℕ). lead_text here.member i (stretch_for y.lead) first_world) body_is ∙ ap (λ (i : P.Stretch). lead_text here.member (body_of deck here.member) i first_world) so.lead
        ∙ sym (lead_is (level_of left deck) deck here.member (below_of below) source.lead first_world) in
        subst (λ (R : Res Run.Stop (Unit {0})). RanAs deck rows names here.starts g B c₁ l₁ h₁ w₁ t₁ ls₁ q R) is (li.is B st.onstage lies ru.member.low)

    abbrev then : Res Run.Stop (Unit {0}) → Res Run.Stop F.End
    then R = bind R λ _ v. F.run_on member (v.limit - v.used) (Calls.first_of source.first) [] v

    member_is : Run.run_member mixed left deck here.member (below_of below) first_world ≡ then (F.lead_out member source.lead first_world)
    unfolding Run.run_source
    member_is = run_member_is left deck here.member (below_of below) first_world

    module _ (g₁ : Progress) (af : After (Unit {0}) deck rows names here.starts g B c₁ l₁ h₁ w₁ t₁ ls₁ g₁ tt (F.lead_out member source.lead first_world)) (size : length c₁ ≡ length c) where
      stage_led : Stage deck rows names c₁ l₁ h₁ w₁ t₁ ls₁ here.starts g₁ af.world
      stage_led = record {
        onstage = af.stage;
        placed = placed_same (body_in deck) B af.world af.goes.identifiers af.goes.denotations af.goes.members st.placed;
        laid = laid_same deck rows here.starts g₁.rows B af.world af.goes.members (subst (λ (i : ℕ). Laid deck rows here.starts i B) (sym af.tabled) st.laid);
        sentences = af.goes.sentences ∙ st.sentences ∙ sym af.tabled;
        few = omega (arith, st.few, af.tabled);
        roomy = record { table = st.roomy.table; book = st.roomy.book; cells = omega (arith, st.roomy.cells, size) };
      }

      later_led : Later B af.world
      later_led = later_same B af.world af.goes.denotations af.goes.members af.goes.limit

      running_led : Running deck (body_in deck here.member) rows here below left af.world
      running_led = record {
        sound = ru.sound;
        line = ru.line;
        member = record { body = ru.member.body; whole = ru.member.whole; short = ru.member.short; low = ru.member.low; entered = ap (λ (ms : List Entered). rows_in here.member ms) af.goes.members ∙ ru.member.entered };
        stand = stand_later (below_of below) B af.world later_led ru.stand;
        deep = ru.deep;
      }

      rows_led : (x : Next) → x ≡ first_of y.first → (rows' names' c' l' h' w' t' ls' : List ℕ) (r : Left) → RowsAre deck rows names c₁ l₁ h₁ w₁ t₁ ls₁ x below here left g₁ rows' names' c' l' h' w' t' ls' r
          → EndsAs (below_of below) deck rows B rows' names' c' l' h' w' t' ls' here.member (Run.run_member mixed left deck here.member (below_of below) first_world) r
      rows_led x ex rows' names' c' l' h' w' t' ls' r ra =
          let B₁ : World = af.world in
          let second : World = world_in B₁ c₁ l₁ h₁ g₁.meter.used in
          let ends : EndsAs (below_of below) deck rows B₁ rows' names' c' l' h' w' t' ls' here.member (F.run_on member (B₁.limit - g₁.meter.used) (next_from x) [] second) r =
          ra.is B₁ stage_led running_led (rw ex (first_at (level_of left deck) deck here.member (below_of below) (part_here rows here) B₁.denotations y.first so.first)) in
          let is : F.run_on member (B₁.limit - g₁.meter.used) (next_from x) [] second ≡ Run.run_member mixed left deck here.member (below_of below) first_world =
          ap (λ (i : F.Next). F.run_on member (B₁.limit - g₁.meter.used) i [] second) (ap next_from ex ∙ first_is y.first ∙ ap Calls.first_of so.first) ∙ sym (member_is ∙ ap then af.is) in
          record {
            world = ends.world;
            since = since_on rows rows rows' B B₁ ends.world (since_same rows B B₁ later_led af.goes.sentences) ends.since;
            now = subst (λ (i : Res Run.Stop F.End). EndNow (below_of below) deck rows' names' c' l' h' w' t' ls' (here_at here.member r.starts) i ends.world r.ended) is ends.now;
          }

  pub source_runs : (g₁ : Progress) → q ≡ Ok g₁ → length c₁ ≡ length c → (x : Next) → x ≡ first_of y.first → (rows' names' c' l' h' w' t' ls' : List ℕ) (r : Left)
      → RowsAre deck rows names c₁ l₁ h₁ w₁ t₁ ls₁ x below here left g₁ rows' names' c' l' h' w' t' ls' r → SourceIs deck rows names c l h w t ls y below here left g rows' names' c' l' h' w' t' ls' r
  source_runs g₁ eq size x ex rows' names' c' l' h' w' t' ls' r ra = record {
    is = λ B st ru so.
        rows_led B st ru so g₁ (subst (λ (i : Ran). RanAs deck rows names here.starts g B c₁ l₁ h₁ w₁ t₁ ls₁ i (F.lead_out member source.lead (world_in B c l h g.meter.used))) eq (led B st ru so)) size x ex rows' names' c' l' h' w' t' ls' r ra;
  }

  pub source_bad : (z : Stop) (g₁ : Progress) → q ≡ Err (z, g₁) → (r : Left) → r ≡ left_at here (Err (z, g₁)) → SourceIs deck rows names c l h w t ls y below here left g rows names c₁ l₁ h₁ w₁ t₁ ls₁ r
  source_bad z g₁ eq r er = rw er record {
    is = λ B st ru so.
        let is : F.lead_out member source.lead (world_in B c l h g.meter.used) ≡ bad (stop_for z) g₁.meter.used =
        subst (λ (i : Ran). RanAs deck rows names here.starts g B c₁ l₁ h₁ w₁ t₁ ls₁ i (F.lead_out member source.lead (world_in B c l h g.meter.used))) eq (led B st ru so) in
        record { world = B; since = since_none rows B; now = member_is B st ru so ∙ ap (then B st ru so) is };
  }
