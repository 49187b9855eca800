use Rattle.vm_kernel.proofs.Common.{AllSkipped, FrameNo, Header, Ids, List, Option, Parts, Queues, ReclaimEffects, Rests, Some, ap, arith, false, is_queued}
use Rattle.vm_kernel.proofs.Common.{is_skipped, queues_after_search, refl, subst, sym, victim_frame, ◌∙◌, ◌≡◌, ℕ}
use Rattle.std.specs.Prelude.{◌++◌}
use Rattle.vm_base.specs.declared.ids.PageKey.{PageKey}
use Rattle.vm_kernel.proofs.lists.ListsAsTold.{plays_looked, reclaim_plays_from}
use Rattle.vm_kernel.proofs.lists.FramesSkipped.{leaves_of, some_reclaimed}
use Rattle.vm_kernel.proofs.lists.PagesSpared.{LeadsBack, are_spared, frees_or_returns, keeps_spared, skips_locked, skips_same}
use Rattle.vm_kernel.proofs.memory.PageReclaimed.{Took, all_skipped, rests_touched, room_for, took}
use Rattle.vm_kernel.specs.Plays.{AreSpared, Sparing, paging}
use Rattle.vm_kernel.specs.Serving.{IsTheSource, IsToCopy, frame_spared, frames_spared, spares_frame}
use Rattle.vm_model.specs.declared.event.Event.{Event}
use Rattle.vm_pageout.proofs.Listing.{listed_searched}
use Rattle.vm_pageout.proofs.Taken.{reclaim_taken}
use Rattle.vm_pageout.specs.Reclaims.{TakesPage}
use Rattle.vm_pageout.specs.declared.answer.Reclaim.TheVariants as reclaim
use Rattle.vm_parts.specs.Listed.{listed_pages}
use Rattle.vm_queues.specs.Queues.{SkipsSame}
use Rattle.vm_waits.specs.Waits.{EachOnce}
use Rattle.vm_kernel.proofs.parts.Parts.reclaim.Given.{Over}
use Rattle.vm_kernel.proofs.parts.Parts.reclaim.Goals as goal

-- the frames that are spared, as a list
abbrev spared_list : Parts → Option PageKey → List FrameNo
spared_list k spared = frames_spared k.memory.resident spared k.waits.rows

-- of the pages on a list they are just those that the queues are asked to spare
same : (header : Header) (h : ℕ) (k : Parts) (ids : Ids) (past : List Event) (spared : Option PageKey) (one : Option FrameNo) → Rests header h k ids past
    → EachOnce k.waits.rows → LeadsBack k.memory.resident → one ≡ frame_spared k.memory.resident spared
    → SkipsSame (spared_list k spared) (spares_frame k.memory.resident one) k.memory.queues
same header h k ids past spared one rests once leads is =
    subst (λ z. SkipsSame (spared_list k spared) (spares_frame k.memory.resident z) k.memory.queues) (sym is)
    (skips_same header h k ids past spared rests once leads)

sources : (header : Header) (h : ℕ) (k : Parts) (ids : Ids) (past : List Event) (by : Sparing) (spared : Option PageKey) → Rests header h k ids past
    → EachOnce k.waits.rows → IsToCopy header h k spared past → IsTheSource header h by spared past
    → AreSpared header h by past (paging k).frame_at (spared_list k spared)
sources header h k ids past by spared rests once to_copy source =
    are_spared header h k ids past by spared rests.matches rests.waits rests.used.copies once to_copy source

-- where no victim was found

none_left : (g : Over) (c : goal.In_default g) → AllSkipped (spared_list c.args.self.now c.args.spared) c.args.self.now.memory.queues
none_left g c = λ f queued.
    same g.given.header g.given.host c.args.self.now c.args.ids.now (c.args.log.now.items ++ g.given.past) c.args.spared c.frame_of-one.result
    c.requires.0 c.count.ensures.once c.lead_back.ensures c.frame_of-one.ensures f queued ∙ c.in_default.ensures.none f queued

pub returns-in_default-clause-rests : goal.returns-in_default-clause-rests
returns-in_default-clause-rests g c =
    rests_touched g.given.header g.given.host c.args.ids.now c.args.self.now c.victim_but.new.self (c.args.log.now.items ++ g.given.past) c.requires.0
    c.victim_but.ensures.pages (ap (λ z. z.frames) c.victim_but.ensures.queues)

pub returns-in_default-clause-reclaimed : goal.returns-in_default-clause-reclaimed
returns-in_default-clause-reclaimed g c =
    let past = c.args.log.now.items ++ g.given.past in
    let k = c.args.self.now in
    frees_or_returns g.given.header g.given.host k _ c.args.ids.now c.args.spared reclaim.Nothing past past c.requires.0
    (rests_touched g.given.header g.given.host c.args.ids.now k c.victim_but.new.self past c.requires.0 c.victim_but.ensures.pages
    (ap (λ z. z.frames) c.victim_but.ensures.queues))
    c.count.ensures.once c.requires.1.1.0
    (all_skipped g.given.header g.given.host (spared_list k c.args.spared) k c.victim_but.new.self c.args.ids.now past c.requires.0 (none_left g c))

pub returns-in_default-clause-plays : goal.returns-in_default-clause-plays
returns-in_default-clause-plays g c =
    let past = c.args.log.now.items ++ g.given.past in
    plays_looked g.given.header g.given.host g.given.by g.given.past c.args.log.now.items (spared_list c.args.self.now c.args.spared) c.args.self.now
    c.victim_but.new.self c.requires.1.1.1.1
    (sources g.given.header g.given.host c.args.self.now c.args.ids.now past g.given.by c.args.spared c.requires.0 c.count.ensures.once c.requires.1.1.0
    c.requires.1.1.1.0)
    (none_left g c) c.victim_but.ensures.queues

pub returns-in_default-clause-leaves : goal.returns-in_default-clause-leaves
returns-in_default-clause-leaves g c =
    let all = ap listed_pages c.victim_but.ensures.queues ∙ listed_searched c.args.self.now.memory.queues in
    record {
      log = omega arith;
      buffers = omega arith;
      freed = λ bad. absurd (let clash : reclaim.Nothing ≡ reclaim.Freed = bad in cc);
      rows = omega arith;
      objects = omega arith;
      chains = refl;
      copies = refl;
      none = λ is. all;
      fewer = λ apart. absurd (apart refl);
    }

pub reclaim_page-requires-clause-room : goal.reclaim_page-requires-clause-room
reclaim_page-requires-clause-room g c =
    room_for g.given.header g.given.host c.args.self.now c.args.ids.now (c.args.log.now.items ++ g.given.past) c.in-Some.frame.0 c.requires.0
    c.in-Some.ensures.none.0

-- where one was found

skips : (g : Over) (c : goal.In_ok-answer g)
    → SkipsSame (spared_list c.args.self.now c.args.spared) (spares_frame c.args.self.now.memory.resident c.frame_of-one.result) c.args.self.now.memory.queues
skips g c =
    same g.given.header g.given.host c.args.self.now c.args.ids.now (c.args.log.now.items ++ g.given.past) c.args.spared c.frame_of-one.result c.requires.0
    c.count.ensures.once c.lead_back.ensures c.frame_of-one.ensures

unskipped : (g : Over) (c : goal.In_ok-answer g) → is_skipped (spared_list c.args.self.now c.args.spared) c.in-Some.frame.0 ≡ false
unskipped g c = skips g c c.in-Some.frame.0 c.in-Some.ensures.none.0 ∙ c.in-Some.ensures.none.1

-- what became of the page
effects : (g : Over) (c : goal.In_ok-answer g)
    → ReclaimEffects c.in_ok-answer.answer c.args.self.now.host (spared_list c.args.self.now c.args.spared) c.args.self.now.memory c.reclaim_page.new.parts
    c.args.self.now.laundry c.reclaim_page.new.laundry c.args.log.now.items c.reclaim_page.new.log.items
effects g c =
    let k = c.args.self.now in
    let found : victim_frame (spared_list k c.args.spared) (queues_after_search k.memory.queues) ≡ Some c.in-Some.frame =
    ap (victim_frame (spared_list k c.args.spared)) (sym c.victim_but.ensures.queues)
    ∙ sym (c.in-Some.ensures.victim (spared_list k c.args.spared) (skips g c)) in
    reclaim_taken c.in_ok-answer.answer k.host (spared_list k c.args.spared) c.in-Some.frame k.memory c.reclaim_page.new.parts k.laundry
    c.reclaim_page.new.laundry c.args.log.now.items c.reclaim_page.new.log.items
    (subst (λ (z : Queues). TakesPage c.in_ok-answer.answer k.host c.in-Some.frame (record k.memory { queues = z }) c.reclaim_page.new.parts k.laundry
    c.reclaim_page.new.laundry c.args.log.now.items c.reclaim_page.new.log.items) c.victim_but.ensures.queues c.in_ok-answer.ensures.ok)
    found c.in-Some.ensures.none.0 (unskipped g c)

took_it : (g : Over) (c : goal.In_ok-answer g)
    → Took g.given.header g.given.host g.given.outside g.given.command g.given.past c.args.ids.now c.in_ok-answer.answer
    (spared_list c.args.self.now c.args.spared) c.args.self.now
    (record c.args.self.now { memory = c.reclaim_page.new.parts; laundry = c.reclaim_page.new.laundry }) c.args.log.now.items c.reclaim_page.new.log.items
took_it g c =
    let k = c.args.self.now in
    let past = c.args.log.now.items ++ g.given.past in
    took g.given.header g.given.host g.given.outside g.given.command g.given.past c.args.ids.now c.in_ok-answer.answer (spared_list k c.args.spared) k _
    c.args.log.now.items c.reclaim_page.new.log.items c.requires.0
    (record {
      host = refl;
      size = refl;
      declared = refl;
      maps = refl;
      chains = refl;
      copied = refl;
      waits = refl;
      buffers = c.in_ok-answer.ensures.size;
      fit = c.in_ok-answer.ensures.fit;
      live = c.in_ok-answer.ensures.live;
    })
    (skips_locked g.given.header g.given.host k c.args.ids.now past c.args.spared c.requires.0.matches c.requires.0.waits)
    (λ f. ap (λ z. is_queued z f) (sym c.victim_but.ensures.queues) ∙ c.victim_but.ensures.pages f) c.requires.1.0 (effects g c)

pub returns-clause-rests : goal.returns-clause-rests
returns-clause-rests g c = (took_it g c).rests

pub returns-clause-goes : goal.returns-clause-goes
returns-clause-goes g c = (took_it g c).goes

pub returns-clause-reclaims : goal.returns-clause-reclaims
returns-clause-reclaims g c = (took_it g c).gone

pub returns-clause-reclaimed : goal.returns-clause-reclaimed
returns-clause-reclaimed g c =
    frees_or_returns g.given.header g.given.host c.args.self.now _ c.args.ids.now c.args.spared c.in_ok-answer.answer
    (c.args.log.now.items ++ g.given.past) (c.reclaim_page.new.log.items ++ g.given.past) c.requires.0 (took_it g c).rests c.count.ensures.once
    c.requires.1.1.0 (took_it g c).reclaimed

pub returns-clause-spared : goal.returns-clause-spared
returns-clause-spared g c =
    keeps_spared g.given.header g.given.host c.args.self.now _ c.args.spared c.in_ok-answer.answer (c.args.log.now.items ++ g.given.past)
    (c.reclaim_page.new.log.items ++ g.given.past) c.requires.1.1.0 (took_it g c).reclaimed

pub returns-clause-plays : goal.returns-clause-plays
returns-clause-plays g c =
    let k = c.args.self.now in
    let past = c.args.log.now.items ++ g.given.past in
    reclaim_plays_from g.given.header g.given.host g.given.by g.given.past c.args.ids.now (spared_list k c.args.spared) c.in_ok-answer.answer k
    (record k { memory = c.reclaim_page.new.parts; laundry = c.reclaim_page.new.laundry }) k.memory.queues c.args.log.now.items
    c.reclaim_page.new.log.items c.requires.0 c.requires.1.1.1.1
    (sources g.given.header g.given.host k c.args.ids.now past g.given.by c.args.spared c.requires.0 c.count.ensures.once c.requires.1.1.0
    c.requires.1.1.1.0) refl c.in-Some.frame.0 c.in-Some.ensures.none.0 (unskipped g c) (effects g c)

pub returns-clause-leaves : goal.returns-clause-leaves
returns-clause-leaves g c =
    let k = c.args.self.now in
    let done = c.in_ok-answer.ensures in
    let all = ap listed_pages c.victim_but.ensures.queues ∙ listed_searched k.memory.queues in
    leaves_of c.in_ok-answer.answer k.host (spared_list k c.args.spared) k
    (record k { memory = c.reclaim_page.new.parts; laundry = c.reclaim_page.new.laundry }) k.laundry c.reclaim_page.new.laundry c.args.log.now.items
    c.reclaim_page.new.log.items c.args.log.now.room c.reclaim_page.new.log.room (effects g c) done.log done.buffers done.spare done.freed done.whole refl refl (
      (λ nothing. absurd (some_reclaimed c.in_ok-answer.answer _ _ _ _ _ _ _ _ c.in-Some.frame.0 (effects g c) c.in-Some.ensures.none.0 (unskipped g c) nothing)),
      (λ apart. done.listed ∙ all),
    )
