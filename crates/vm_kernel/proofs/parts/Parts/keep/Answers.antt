use Rattle.vm_kernel.proofs.Common.{Still, arith, inl, inr, refl, subst, sym, ◌∙◌, ◌≡◌, ℕ, false, true}
use Rattle.vm_kernel.proofs.controls.FlagSet.{FlagPut, Moves, ended, ends, flag_down, flag_spends, flag_up, kept, may_refer, may_unrefer, moves, stays}
use Rattle.vm_kernel.proofs.room.CallsSpend.{spends_both}
use Rattle.vm_kernel.proofs.room.EndsSpend.{roomy_on}
use Rattle.vm_kernel.proofs.space.ObjectsEnd.{only_none}
use Rattle.vm_kernel.proofs.steps.EventsGrow.{goes_none}
use Rattle.vm_kernel.specs.Rooms.{Spends, leaving}
use Rattle.vm_kernel.proofs.parts.Parts.keep.Given as given
use Rattle.vm_kernel.proofs.parts.Parts.keep.Goals as goal
use Rattle.vm_kernel.proofs.parts.Parts.keep.Goals.{After-set_cache, After-unrefer, After-refer}

-- the flag is another
moved : (g : given.Over) (c : After-set_cache g) → Moves c.requires c.set_cache.new.self
moved g c =
    moves c.requires c.in-Some.known c.set_cache.new.self (sym c.find.ensures ∙ c.in-Some.is) c.in_default-kind.not-Temp c.if-known-cache.false
    c.set_cache.ensures.object c.set_cache.ensures.marks

pub returns-then-known-cache-clause-works : goal.returns-then-known-cache-clause-works
returns-then-known-cache-clause-works g c = kept c.requires c.in-Some.known (sym c.find.ensures ∙ c.in-Some.is) (inr c.if-known-cache.true)

pub returns-then-known-cache-clause-plays : goal.returns-then-known-cache-clause-plays
returns-then-known-cache-clause-plays g c = Still

pub returns-in-Temp-clause-works : goal.returns-in-Temp-clause-works
returns-in-Temp-clause-works g c = kept c.requires c.in-Some.known (sym c.find.ensures ∙ c.in-Some.is) (inl c.in-Temp.is)

pub returns-in-Temp-clause-plays : goal.returns-in-Temp-clause-plays
returns-in-Temp-clause-plays g c = Still

pub refer-requires : goal.refer-requires
refer-requires g c =
    let may = may_refer c.requires (moved g (goal.at.refer-requires g c).After-set_cache) in
    record { there = may.0; few = may.1 }

pub unrefer-requires : goal.unrefer-requires
unrefer-requires g c =
    let may = may_unrefer c.requires (moved g (goal.at.unrefer-requires g c).After-set_cache) c.if-cache.false in
    record { there = may.0; some = may.1 }

down : (g : given.Over) (c : After-unrefer g) → FlagPut g.given.header c.args.self.now c.args.object c.requires.known c.args.cache c.unrefer.result
    c.unrefer.new.self
down g c =
    flag_down c.requires
    (moves c.requires c.in-Some.known c.set_cache.new.self (sym c.find.ensures ∙ c.in-Some.is) c.in_default-kind.not-Temp c.if-known-cache.false
    c.set_cache.ensures.object c.set_cache.ensures.marks)
    c.unrefer.result c.unrefer.new.self c.if-cache.false c.unrefer.ensures.left c.unrefer.ensures.object c.unrefer.ensures.marks

pub returns-then-cache : goal.returns-then-cache
returns-then-cache g c =
    let is = flag_up c.requires (moved g (goal.at.returns-then-cache g c).After-set_cache) c.refer.new.self c.if-cache.true c.refer.ensures.object
    c.refer.ensures.marks in
    record {
      works = stays c.requires is (omega arith);
      goes = goes_none g.given.header g.given.host g.given.outside g.given.command g.given.past c.args.log.now.items;
      waits = refl;
      plays = Still;
      only = only_none c.args.log.now.items;
      spends = flag_spends c.args.ids.now c.args.log.now c.requires.found is (c.refer.ensures.rooms.rows ∙ c.set_cache.ensures.rooms.rows);
      succeeds = λ room buffers. refl;
      buffers = λ had. had;
    }

-- nothing is spent before the object ends
first_spends : (g : given.Over) (c : After-unrefer g) → Spends (leaving c.args.self.now c.args.ids.now) 0
    (leaving (record c.args.self.now { memory = record c.args.self.now.memory { objects = c.unrefer.new.self } }) c.args.ids.now) c.args.self.now
    c.args.log.now (record c.args.self.now { memory = record c.args.self.now.memory { objects = c.unrefer.new.self } }) c.args.log.now
first_spends g c =
    flag_spends c.args.ids.now c.args.log.now c.requires.found (down g c) (c.unrefer.ensures.rooms.rows ∙ c.set_cache.ensures.rooms.rows)

pub returns-then-unrefer-gt0 : goal.returns-then-unrefer-gt0
returns-then-unrefer-gt0 g c =
    let turn = (goal.at.returns-then-unrefer-gt0 g c).After-unrefer in
    record {
      works = stays c.requires (down g turn) c.if-unrefer-gt0.true;
      goes = goes_none g.given.header g.given.host g.given.outside g.given.command g.given.past c.args.log.now.items;
      waits = refl;
      plays = Still;
      only = only_none c.args.log.now.items;
      spends = first_spends g turn;
      succeeds = λ room buffers. refl;
      buffers = λ had. had;
    }

-- the last reference was the flag
last : (g : given.Over) (c : After-unrefer g) → c.unrefer.result ≡ 0 → FlagPut g.given.header c.args.self.now c.args.object c.requires.known c.args.cache 0
    c.unrefer.new.self
last g c none =
    subst (λ (z : ℕ). FlagPut g.given.header c.args.self.now c.args.object c.requires.known c.args.cache z c.unrefer.new.self) none (down g c)

pub end_object-requires : goal.end_object-requires
end_object-requires g c =
    let none = c.if-unrefer-gt0.false in
    let is = last g (goal.at.end_object-requires g c).After-unrefer (omega (arith, none)) in
    ends c.requires is refl

pub returns-in_err-_left-clause-succeeds : goal.returns-in_err-_left-clause-succeeds
returns-in_err-_left-clause-succeeds g c = λ room buffers.
    let turn = (goal.at.returns-in_err-_left-clause-succeeds g c).After-unrefer in
    let bad : false ≡ true = c.in_err-_left.ensures.succeeds (roomy_on c.args.self.now (record c.args.self.now
    { memory = record c.args.self.now.memory { objects = c.unrefer.new.self } }) c.args.log.now c.args.log.now _ _ (first_spends g turn) room) buffers in
    absurd (cc)

pub returns : goal.returns
returns g c =
    let turn = (goal.at.returns g c).After-unrefer in
    let none = c.if-unrefer-gt0.false in
    let all = c.in_ok-_left.ensures in
    record {
      works = ended c.requires (last g turn (omega (arith, none))) c.in_ok-_left._left all.whole all.loser all.bare;
      goes = all.goes;
      waits = all.waits;
      plays = all.plays;
      only = all.only;
      spends =
          spends_both c.args.self.now (record c.args.self.now { memory = record c.args.self.now.memory { objects = c.unrefer.new.self } })
          c.end_object.new.self c.args.log.now c.args.log.now c.end_object.new.log _ _ _ (first_spends g turn) all.spends;
      succeeds = λ room buffers. refl;
      buffers = all.buffers;
    }
