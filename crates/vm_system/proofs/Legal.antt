-- The history stays legal with the step of each command.
use Rattle.std.proofs.Common.{zero, suc, length, refl, ap, ℕ, Some, None, Option, ◌||◌, ◌&&◌, nat_lt}
use Rattle.vm_base.specs.declared.ids.ObjectId.{ObjectId}
use Rattle.vm_base.specs.declared.ids.TaskId.{TaskId}
use Rattle.vm_legal.specs.Follows.{cache_head, clean_head, map_head, SoFarBy}
use Rattle.vm_system.proofs.Common.{AllInner, NoneIsTemporary, AllInTurn, AllServed, Began, Bool, Code, Command, EachEvent, EachIn, EachOf, Entry, Event}
use Rattle.vm_system.proofs.Common.{FollowsSoFarInTurn, FramesSuffice, HasCause, Header, Holds, HostTable, IfNone, IsAtRest, IsConsequence}
use Rattle.vm_system.proofs.Common.{IsDoneInTurn, IsGroupInTurn, IsPaid, IsRunInTurn, IsWholeInTurn, IsWholeSoFarInTurn, KeepsCanonical, List, MomentsIn, None}
use Rattle.vm_system.proofs.Common.{Numbered, Option, Outside, OwnBytes, Prompt, Some, Went, [], acting, ap, code_where, copies, copies_from}
use Rattle.vm_system.proofs.Common.{copy_refusal, each_both, each_whole, entries_of, entry_at, false, head, host_of, if◌then◌else◌, inl}
use Rattle.vm_system.proofs.Common.{inner_both, is_copied, is_copy_full, is_elsewhere, is_fork_full, is_full, is_idle, is_none, is_range, is_some, length}
use Rattle.vm_system.proofs.Common.{licensed_both, marked_below, marked_regions, meets_range, moment_last, moments_both, moments_whole, most_entries, nat_le}
use Rattle.vm_system.proofs.Common.{new_marks, next_object, next_region, not, of_both, refl, refusal, region_of, reverse, settles, so_far, steps_whole, subst}
use Rattle.vm_system.proofs.Common.{suc, sym, takings_more, true, waiting, zero, ℕ, ◌++◌, ◌+◌, ◌/◌, ◌∙◌, ◌∷◌, ◌≡◌}
use Rattle.vm_base.specs.declared.code.Code.TheVariants as code
use Rattle.vm_hosts.specs.Steps.{ActsOn}
use Rattle.vm_kernel.specs.Begun.{acts_on}
use Rattle.vm_model.specs.declared.event.Event.TheVariants as event
use Rattle.vm_model.specs.declared.command.Command.TheVariants as command
use Rattle.vm_system.proofs.Cleaning.{IsAsked, known_line}
use Rattle.vm_system.proofs.Silent.{all_settled, paid_inner, prompt_code, prompt_line, ends_lined, awake_code, awake_line}
use Rattle.sms_server.specs.Stands.{IsOther as IsServerOther}
use Rattle.vm_shared.proofs.Currents.{flat_of}
use Rattle.vm_shared.proofs.Pages.{writers as one_writer, legal as pages_legal}
use Rattle.sms_server.proofs.Acting.{others_recall as recalled_other, others_serve as served_other}
use Rattle.vm_system.proofs.Lawfulness.{others_said, recalled_more, served_more}
use Rattle.vm_legal.proofs.Turns.{so_far_of as weak_so_far}
use Rattle.vm_legal.specs.InTurn.{AllRecalled, StepIsInTurn, NoneSleeps}
use Rattle.vm_legal.specs.Serving.{HostsServed}
use Rattle.vm_legal.proofs.Serving.{one_served}
use Rattle.vm_legal.specs.Refusal.{takes_no_mark}
use Rattle.vm_model.specs.Named.{named}
use Rattle.vm_model.specs.Tasks.{copies_below}
use Rattle.vm_system.proofs.Served.{nobodys_own}
use Rattle.vm_model.specs.Moments.{BeforeSteps}
use Rattle.vm_system.proofs.Awake.{awake_of}

-- a line in front changes no refusal and no head

marks_line : (header : Header) (line n : ℕ) (h : List Event) → marked_below header n (event.Line line ∷ h) ≡ marked_below header n h
marks_line header line zero h = refl
marks_line header line (suc n) h = ap (λ (z : ℕ). if (region_of header n h).mark then z + 1 else z) (marks_line header line n h)

new_line : (header : Header) (line : ℕ) (h : List Event) (rows : List Entry)
    → new_marks (takes_no_mark header (event.Line line ∷ h)) rows ≡ new_marks (takes_no_mark header h) rows
new_line header line h [] = refl
new_line header line h (row ∷ rows) =
    ap (λ (z : ℕ). if is_copied row.inherit && (not (copies_from row.region.0 rows) && not (takes_no_mark header h row.region.0)) then z + 1 else z)
    (new_line header line h rows)

all_marks_line : (header : Header) (line : ℕ) (h : List Event) → marked_regions header (event.Line line ∷ h) ≡ marked_regions header h
all_marks_line header line h = marks_line header line (next_region header h) h

full_line : (header : Header) (line task : ℕ) (h : List Event) → is_full header task (event.Line line ∷ h) ≡ is_full header task h
full_line header line task h =
    ap (λ (m : ℕ). nat_lt most_entries (length (entries_of header.size task h) + 1) ||
    (nat_le 8192 (next_region header h) || nat_le 8192 (next_object header h + m))) (all_marks_line header line h)

fork_line : (header : Header) (line : ℕ) (h : List Event) (rows : List Entry) → is_fork_full header rows (event.Line line ∷ h) ≡ is_fork_full header rows h
fork_line header line h rows =
    ap (λ (m : ℕ). nat_lt 8192 (next_region header h + copies rows) || nat_lt 8192
    (next_object header h + m + copies rows + new_marks (takes_no_mark header (event.Line line ∷ h)) rows + copies_below (named header) rows))
    (all_marks_line header line h)
    ∙ ap (λ (n : ℕ). nat_lt 8192 (next_region header h + copies rows) || nat_lt 8192
    (next_object header h + marked_regions header h + copies rows + n + copies_below (named header) rows))
    (new_line header line h rows)

copy_line : (header : Header) (line source : ℕ) (h : List Event) → is_copy_full header source (event.Line line ∷ h) ≡ is_copy_full header source h
copy_line header line source h = rw (all_marks_line header line h) refl

copied_line : (header : Header) (line address bytes target to : ℕ) (h : List Event) (entry : Option Entry)
    → copy_refusal header address bytes target to (event.Line line ∷ h) entry ≡ copy_refusal header address bytes target to h entry
copied_line header line address bytes target to h None = refl
copied_line header line address bytes target to h (Some entry) = rw (copy_line header line entry.region.0 h) refl

-- where a task lives, a file is its host's behind the line as in front of it
elsewhere_line : (header : Header) (line object : ℕ) (host : Option ℕ) (h : List Event)
    → is_elsewhere header object host (event.Line line ∷ h) ≡ is_elsewhere header object host h
elsewhere_line header line object None h = refl
elsewhere_line header line object (Some host) h = refl

pub refusal_line : (header : Header) (line : ℕ) (h : List Event) (c : Command) → refusal header (event.Line line ∷ h) c ≡ refusal header h c
refusal_line header line h (command.Task task host) = refl
refusal_line header line h (command.Fork task child) =
    ap (λ (b : Bool). code_where (is_none (host_of task.0 h)) code.NoSuchName (code_where (is_some (host_of child.0 h)) code.NameTaken
    (code_where (is_some (waiting task.0 h)) code.Blocked (code_where b code.TableFull None))))
    (fork_line header line h (entries_of header.size task.0 h))
refusal_line header line h (command.Exit task) = refl
refusal_line header line h (command.Allocate task address bytes) =
    ap (λ (b : Bool). acting h task.0 (code_where (not (is_range header.size address bytes) || nat_lt 4096 (bytes / header.size)) code.InvalidArgument
    (code_where (meets_range address bytes (entries_of header.size task.0 h)) code.NoSpace (code_where b code.TableFull None))))
    (full_line header line task.0 h)
refusal_line header line h (command.Map task address bytes object offset) = rw (elsewhere_line header line object.0 (host_of task.0 h) h) refl
refusal_line header line h (command.Copy task address bytes target to) =
    rw (copied_line header line address bytes target.0 to h (entry_at address (entries_of header.size task.0 h))) refl
refusal_line header line h (command.Deallocate task address bytes) = refl
refusal_line header line h (command.Protect task address bytes prot) = refl
refusal_line header line h (command.Inherit task address bytes inherit) = refl
refusal_line header line h (command.Load task address size) = refl
refusal_line header line h (command.Store task address size value) = refl
refusal_line header line h (command.Wire host count) = refl
refusal_line header line h (command.Unwire host count) = refl
refusal_line header line h (command.Take channel) = refl
refusal_line header line h other = refl

-- a line changes nothing of where a command acts
acts_same : (h line : ℕ) (past : List Event) (c : Command) → acts_on h c (event.Line line ∷ past) ≡ acts_on h c past
acts_same h line past (command.Task task host) = refl
acts_same h line past (command.Fork task child) = refl
acts_same h line past (command.Exit task) = refl
acts_same h line past (command.Allocate task address bytes) = refl
acts_same h line past (command.Map task address bytes object offset) = refl
acts_same h line past (command.Deallocate task address bytes) = refl
acts_same h line past (command.Protect task address bytes prot) = refl
acts_same h line past (command.Inherit task address bytes inherit) = refl
acts_same h line past (command.Load task address size) = refl
acts_same h line past (command.Store task address size value) = refl
acts_same h line past (command.Copy task address bytes target to) = refl
acts_same h line past (command.Pageout host count) = refl
acts_same h line past (command.Wire host count) = refl
acts_same h line past (command.Unwire host count) = refl
acts_same h line past other = refl

pub acts_line : (header : Header) (h line : ℕ) (doing : Command) (past : List Event) → ActsOn header h doing past
    → ActsOn header h doing (event.Line line ∷ past)
acts_line header h line doing past on = record { known = on.known; acts = acts_same h line past doing ∙ on.acts }

map_line : (header : Header) (task : TaskId) (address bytes : ℕ) (object : ObjectId) (offset line : ℕ) (h : List Event) (x : Option ℕ)
    → map_head header task address bytes object offset (event.Line line ∷ h) x ≡ map_head header task address bytes object offset h x
map_line header task address bytes object offset line h None = refl
map_line header task address bytes object offset line h (Some host) = refl

pub head_line : (header : Header) (line : ℕ) (h : List Event) (c : Command) → head header (event.Line line ∷ h) c ≡ head header h c
head_line header line h (command.Task task host) = refl
head_line header line h (command.Fork task child) = refl
head_line header line h (command.Exit task) = refl
head_line header line h (command.Allocate task address bytes) = refl
head_line header line h (command.Deallocate task address bytes) = refl
head_line header line h (command.Protect task address bytes prot) = refl
head_line header line h (command.Inherit task address bytes inherit) = refl
head_line header line h (command.Load task address size) = refl
head_line header line h (command.Store task address size value) = refl
head_line header line h (command.Pageout host count) = refl
head_line header line h (command.Wire host count) = refl
head_line header line h (command.Unwire host count) = refl
head_line header line h (command.Take channel) = refl
head_line header line h (command.Settle count) = refl
head_line header line h (command.FailFiles count) = refl
head_line header line h (command.FailPaging count) = refl
head_line header line h (command.Map task address bytes object offset) = map_line header task address bytes object offset line h (host_of task.0 h)
head_line header line h (command.Clean object page count flush) =
    ap (λ z. Some (clean_head object page count flush z)) (known_line (length header.frames.items) object.0 line h)
head_line header line h (command.Cache object cache) =
    ap (λ z. Some (cache_head object cache z)) (known_line (length header.frames.items) object.0 line h)
head_line header line h other = refl

-- events inside a step take nothing

-- where the server has no part in what is told behind a line it keeps nobody waiting
served_said : (header : Header) (line : ℕ) (h events : List Event) → EachOf (IsServerOther header) events → AllServed header h
    → AllServed header (events ++ event.Line line ∷ h)
served_said header line h events silent served = served_more header events (event.Line line ∷ h) silent (served_other header (event.Line line) h tt served)

recalled_said : (header : Header) (line : ℕ) (h events : List Event) → EachOf (IsServerOther header) events → AllRecalled header h
    → AllRecalled header (events ++ event.Line line ∷ h)
recalled_said header line h events silent recalled =
    recalled_more header events (event.Line line ∷ h) silent (recalled_other header (event.Line line) h tt recalled)

-- a command that is no settle is whole so far, where it is whole
so_far_of : (header : Header) (c : Numbered) (h events : List Event) → (settles c.command ≡ None → IsWholeInTurn header h c events)
    → IsWholeSoFarInTurn header h c events
so_far_of header c h events whole = by_command (refusal header h c.command) c.command whole
  where
    by_command : (refused : Option Code) (doing : Command) → (settles doing ≡ None → IfNone refused (IsDoneInTurn header doing events (event.Line c.line ∷ h)))
        → IfNone refused (SoFarBy (IsDoneInTurn header) doing events (event.Line c.line ∷ h))
    by_command (Some code) doing whole = tt
    by_command None (command.Settle count) whole = tt
    by_command None other whole = whole refl

-- the events behind the line of a command are a step of it that takes no message
pub record IsStep (header : Header) (outside : Outside) (c : Numbered) (h events : List Event) : Type 0 where
  pub made : IsGroupInTurn header outside h c events
  pub whole : settles c.command ≡ None → IsWholeInTurn header h c events
  pub own_bytes : EachIn (OwnBytes header) events (event.Line c.line ∷ h)
  pub frames : FramesSuffice header h → MomentsIn (FramesSuffice header) events (event.Line c.line ∷ h)
  pub inner : AllInner events
  pub rests : IsAtRest header h → IsAtRest header (events ++ event.Line c.line ∷ h)
  pub recalls : AllRecalled header h → AllRecalled header (events ++ event.Line c.line ∷ h)
  pub turns : HostsServed header (events ++ event.Line c.line ∷ h)
  pub awake : EachEvent (HasCause header outside) (events ++ event.Line c.line ∷ h) → NoneSleeps header h → NoneSleeps header (events ++ event.Line c.line ∷ h)

pub legal_step : (header : Header) (outside : Outside) (c : Numbered) (h events : List Event) → NoneIsTemporary header → IsStep header outside c h events
    → KeepsCanonical header outside c h (events ++ event.Line c.line ∷ h)
legal_step header outside c h events kinds step run legal =
    let past = event.Line c.line ∷ h in
    let now = moment_last (FramesSuffice header) h legal.holds.frames in
    let follows : FollowsSoFarInTurn header outside (c ∷ run) (events ++ past) = (
      h,
      events,
      refl,
      step.made,
      so_far_of header c h events step.whole,
      legal.follows,
    ) in
    let own : EachEvent (OwnBytes header) (events ++ past) = each_whole (OwnBytes header) events past step.own_bytes (tt, legal.holds.own_bytes) in
    let causes = so_far header outside (c ∷ run) (events ++ past) (weak_so_far header outside (c ∷ run) (events ++ past) follows) in
    let holds : Holds header outside (events ++ past) = record {
      own_bytes = own;
      flat_bytes = flat_of header outside (events ++ past) kinds causes own;
      frames = moments_whole (FramesSuffice header) events past (step.frames now) (now, legal.holds.frames);
      prompt = steps_whole (Prompt header) events past step.inner (legal.rests.prompt, legal.holds.prompt);
      paid = steps_whole (IsPaid header) events past step.inner (legal.rests.paid, legal.holds.paid);
      served = steps_whole (AllServed header) events past step.inner (legal.rests.served, legal.holds.served);
      one_writer = one_writer header outside (events ++ past) causes own;
      pages = pages_legal header outside (events ++ past) causes own;
    } in
    let rests = step.rests legal.rests in
    let ended : BeforeSteps (StepIsInTurn header) (events ++ past) = steps_whole (StepIsInTurn header) events past step.inner (legal.last, legal.ended) in
    let recalled : BeforeSteps (AllRecalled header) (events ++ past) = steps_whole (AllRecalled header) events past step.inner
    (legal.recalls, legal.recalled) in
    let last : StepIsInTurn header (events ++ past) = record {
      ended = ends_lined header c.line events h step.inner;
      served = step.turns;
      awake = step.awake causes legal.last.awake;
    } in
    record {
      so_far =
          record { follows = follows; holds = holds; rests = rests; ended = ended; last = last; recalled = recalled; recalls = step.recalls legal.recalls };
      whole =
          λ none. record {
            follows = (h, events, refl, step.made, step.whole none, legal.follows);
            holds = holds;
            rests = rests;
            ended = ended;
            last = last;
            recalled = recalled;
            recalls = step.recalls legal.recalls;
          };
      none = inl (takings_more events past step.inner);
    }

-- a refused command adds its line and its code
pub legal_refused : (header : Header) (outside : Outside) (c : Numbered) (why : Code) (h : List Event) → NoneIsTemporary header
    → refusal header h c.command ≡ Some why → KeepsCanonical header outside c h (event.Refused why ∷ event.Line c.line ∷ h)
legal_refused header outside c why h kinds refused = legal_step header outside c h (event.Refused why ∷ []) kinds (record {
  made = rw refused refl;
  whole = λ none. rw refused tt;
  own_bytes = (tt, tt);
  frames = λ now. (now, tt);
  inner = (tt, tt);
  rests = λ rests. record {
    prompt = prompt_code header why (event.Line c.line ∷ h) (prompt_line header c.line h rests.prompt);
    paid = paid_inner header c.line h (event.Refused why ∷ []) (tt, tt) refl;
    served = served_more header (event.Refused why ∷ event.Line c.line ∷ []) h (tt, (tt, tt)) rests.served;
  };
  recalls = λ recalled. recalled_more header (event.Refused why ∷ event.Line c.line ∷ []) h (tt, (tt, tt)) recalled;
  turns =
      one_served header 0 (event.Refused why ∷ []) (event.Line c.line ∷ h) tt tt (tt, tt)
      (nobodys_own header 0 (event.Refused why ∷ []) (event.Line c.line ∷ h) (tt, tt));
  awake = λ causes awake. awake_code header why (event.Line c.line ∷ h) (awake_line header c.line h awake);
})

-- a command's head, and what follows from it
pub legal_began : (header : Header) (outside : Outside) (c : Numbered) (h events : List Event) (hosts : HostTable) → NoneIsTemporary header
    → refusal header h c.command ≡ None → Began header outside c.command (event.Line c.line ∷ h) hosts events
    → KeepsCanonical header outside c h (events ++ event.Line c.line ∷ h)
legal_began header outside c h events hosts kinds fine began =
    let heads = began.heads in
    let stretch = heads.stretch in
    let is : head header h c.command ≡ Some heads.first = sym (head_line header c.line h c.command) ∙ heads.head in
    let made : IsRunInTurn header outside h c heads.first events = record {
      more = heads.more;
      is = heads.is;
      follows = heads.follows;
      licensed = stretch.licensed;
    } in
    legal_step header outside c h events kinds (record {
      made = rw (fine, is) made;
      whole = λ none. rw fine began.done;
      own_bytes = stretch.own_bytes;
      frames = λ now. stretch.frames;
      inner = stretch.inner;
      rests =
          λ rests. record {
            prompt = began.ended.prompt;
            paid = began.paid;
            served = served_said header c.line h events (others_said header events (event.Line c.line ∷ h) stretch.said) rests.served;
          };
      recalls = λ recalled. recalled_said header c.line h events (others_said header events (event.Line c.line ∷ h) stretch.said) recalled;
      turns =
          record {
            before = event.Line c.line ∷ h;
            events = events;
            is = refl;
            begins = tt;
            inner = stretch.inner;
            host = began.host;
            acts = tt;
            turns = began.turns;
          };
      awake = λ causes before. awake_of header outside hosts (events ++ event.Line c.line ∷ h) began.ended.rests began.ended.queues causes;
    })

idle_done : (header : Header) (group past : List Event) (doing : Command) → is_idle doing ≡ true → IsDoneInTurn header doing group past
idle_done header group past (command.FailFiles count) is = tt
idle_done header group past (command.FailPaging count) is = tt
idle_done header group past (command.Clean object page count flush) is = tt
idle_done header group past (command.Cache object cache) is = tt
idle_done header group past (command.Say host object m) is = tt
idle_done header group past other is = absurd (let bad : false ≡ true = is in cc)

-- a command that is no host's: what is asked for it, and what the hosts do behind that
pub legal_passed : (header : Header) (outside : Outside) (c : Numbered) (h asked events : List Event) (hosts : HostTable) → NoneIsTemporary header
    → is_idle c.command ≡ true → refusal header h c.command ≡ None → head header h c.command ≡ Some asked
    → IsAsked header outside c.command (event.Line c.line ∷ h) asked
    → Went header outside c.command (event.Line c.line ∷ h) asked hosts events → KeepsCanonical header outside c h (events ++ event.Line c.line ∷ h)
legal_passed header outside c h asked events hosts kinds idle fine is says went =
    let past = event.Line c.line ∷ h in
    let more = went.more in
    let stretch = went.follows.stretch in
    let both : events ≡ more ++ reverse asked = went.is ∙ ap (λ z. more ++ z) (sym says.back) in
    let inner : AllInner events = subst AllInner (sym went.is) (inner_both more asked stretch.inner says.inner) in
    let made : IsRunInTurn header outside h c asked events = record {
      more = more;
      is = both;
      follows = subst (λ (z : List Event). EachIn IsConsequence more (z ++ past)) (sym says.back) went.follows.follows;
      licensed =
          subst (λ (z : List Event). AllInTurn header outside c.command z past) (sym went.is)
          (licensed_both header outside c.command more asked past stretch.licensed says.licensed);
    } in
    legal_step header outside c h events kinds (record {
      made = rw (fine, is) made;
      whole = λ none. rw fine (idle_done header events past c.command idle);
      own_bytes =
          subst (λ (z : List Event). EachIn (OwnBytes header) z past) (sym went.is)
          (each_both (OwnBytes header) more asked past stretch.own_bytes says.own_bytes);
      frames =
          λ now. subst (λ (z : List Event). MomentsIn (FramesSuffice header) z past) (sym went.is)
          (moments_both (FramesSuffice header) more asked past stretch.frames (says.frames now));
      inner = inner;
      rests = λ rests. record {
        prompt = went.ended.prompt;
        paid = paid_inner header c.line h events inner (all_settled header hosts (events ++ past) went.ended.rests);
        served = served_said header c.line h events
            (subst (EachOf (IsServerOther header)) (sym went.is) (of_both (IsServerOther header) more asked
            (others_said header more (asked ++ past) stretch.said) says.silent)) rests.served;
      };
      recalls = λ recalled. recalled_said header c.line h events
          (subst (EachOf (IsServerOther header)) (sym went.is) (of_both (IsServerOther header) more asked (others_said header more (asked ++ past) stretch.said)
          says.silent)) recalled;
      turns = record {
        before = past;
        events = events;
        is = refl;
        begins = tt;
        inner = inner;
        host = 0;
        acts = tt;
        turns = record { front = asked; served = more; is = went.is; own = nobodys_own header 0 asked past says.nobodys; turns = went.turns };
      };
      awake = λ causes before. awake_of header outside hosts (events ++ past) went.ended.rests went.ended.queues causes;
    })

-- a settle begins with its line
pub legal_settle : (header : Header) (outside : Outside) (line count : ℕ) (h : List Event) → NoneIsTemporary header
    → KeepsCanonical header outside (record { line = line; command = command.Settle count }) h (event.Line line ∷ h)
legal_settle header outside line count h kinds = legal_step header outside (record { line = line; command = command.Settle count }) h [] kinds (record {
  made = record { more = []; is = refl; follows = tt; licensed = tt };
  whole = λ none. absurd (let bad : Some count ≡ None = none in cc);
  own_bytes = tt;
  frames = λ now. tt;
  inner = tt;
  rests =
      λ rests. record {
        prompt = prompt_line header line h rests.prompt;
        paid = paid_inner header line h [] tt refl;
        served = served_said header line h [] tt rests.served;
      };
  recalls = λ recalled. recalled_said header line h [] tt recalled;
  turns = one_served header 0 [] (event.Line line ∷ h) tt tt tt tt;
  awake = λ causes awake. awake_line header line h awake;
})
