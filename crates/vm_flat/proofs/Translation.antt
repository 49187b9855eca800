-- An event that has its cause sustains the law.
use Rattle.std.proofs.Common.{ℕ, ◌≡◌, ◌<◌, ◌≤◌, List, [], ◌∷◌, Bool, true, false, Option, Some, None, if◌then◌else◌, refl, sym, ap, ◌∙◌, arith, inl, inr}
use Rattle.std.proofs.lemmas.Bool.Decides.{nat_tests}
use Rattle.std.specs.Prelude.{◌⊎◌, not}
use Rattle.vm_model.specs.declared.command.Command.{Command}
use Rattle.vm_model.specs.declared.event.Event.{Event}
use Rattle.vm_model.specs.declared.event.Event.TheVariants as event
use Rattle.vm_model.specs.declared.message.Channel.TheVariants.{Up, Down}
use Rattle.vm_model.specs.declared.message.Message.{Message}
use Rattle.vm_model.specs.declared.message.Message.TheVariants as message
use Rattle.vm_model.specs.declared.script.Header.{Header}
use Rattle.vm_model.specs.Local.{Local}
use Rattle.vm_model.specs.Moments.{EachEvent}
use Rattle.vm_model.specs.Named.{named}
use Rattle.vm_model.specs.Regions.{comes_from}
use Rattle.vm_legal.proofs.Served.{paged_may}
use Rattle.vm_legal.specs.Licences as L
use Rattle.vm_legal.specs.Licences.{Caused, HasCause, is_paged, pager_has, tells}
use Rattle.vm_legal.specs.Outside.{Outside, is_file, is_private, is_private_from, is_said, start_page, zeros}
use Rattle.vm_legal.specs.Pagers.{newer}
use Rattle.vm_legal.specs.Used as V
use Rattle.vm_legal.specs.Walks as W
use Rattle.vm_legal.specs.Destroyed.{IsDestroyed}
use Rattle.vm_legal.proofs.Unshared.{paged_tame}
use Rattle.vm_legal.specs.Walks.{page_on}
use Rattle.vm_flat.specs.Places.{spot}
use Rattle.vm_flat.proofs.Locals.{spot_is_local}
use Rattle.vm_flat.proofs.Covers.{declared_covered, is_covered, later_told, stem}
use Rattle.vm_flat.proofs.Opening.{unopened, unmade}
use Rattle.vm_flat.proofs.Precious.{unprecious}
use Rattle.vm_flat.proofs.Pagers.{kept_is, request_is, step_is}
use Rattle.vm_flat.proofs.Sustained as S
use Rattle.vm_flat.proofs.Sustained.{Sustained, AllSustained}
use Rattle.vm_flat.proofs.Using.{by_cause, counted, reached}
use Rattle.vm_flat.proofs.Voids.{void_is}

-- which objects

private_paged : (header : Header) (outside : Outside) (o : ℕ) (from : Option ℕ) → is_private_from header outside o from ≡ true → is_paged header o ≡ true
private_paged header outside o from ours = grind (arith, nat_tests)

file_declared : (header : Header) (outside : Outside) (o : ℕ) → is_file header o ≡ true → o < named header
file_declared header outside o file = grind (arith, nat_tests)

not_below : (header : Header) (outside : Outside) (o : ℕ) (from : Option ℕ) → is_private_from header outside o from ≡ true
    → is_file header o ≡ false → named header ≤ o
not_below header outside o from ours file = grind (arith, nat_tests)

-- of a private object what its pager has tells, but where its answers say what its file has
private_tells : (header : Header) (outside : Outside) (o : ℕ) (from : Option ℕ) → is_private_from header outside o from ≡ true
    → is_said header outside o ≡ false
    → tells header outside o ≡ true
private_tells header outside o from ours silent = by_file (is_file header o) refl
  where
    by_file : (b : Bool) → is_file header o ≡ b → (if b then not (is_said header outside o) else outside.paging) ≡ true
    by_file true file = ap (λ b. not b) silent
    by_file false file = later_told header outside o from (not_below header outside o from ours file) ours

-- messages

answers : (header : Header) (outside : Outside) (host o control p : ℕ) (past : List Event) → L.OwesAnswer host o control p past
    → S.Answers header outside host o control p past
answers header outside host o control p past c =
    record {
      taken = request_is host o control p c.access past c.taken;
      unanswered = step_is header outside host o control p c.access past c.taken c.unanswered;
    }

lacks : (header : Header) (outside : Outside) (host o p : ℕ) (past : List Event) → is_covered header outside o past ≡ true → is_said header outside o ≡ false
    → L.MayLack header outside host o p past
    → S.MayLack (zeros header) (spot header outside host o p past)
lacks header outside host o p past ours silent c =
    kept_is header outside host o p past silent ∙ by_file (is_file header o) refl
    ∙ ap (λ b. if b then Some (zeros header) else None) (sym (spot_is_local header outside past host o p).file)
  where
    by_file : (b : Bool) → is_file header o ≡ b → pager_has header outside host o p past ≡ (if b then Some (zeros header) else None)
    by_file true file = c.1 (private_tells header outside o (stem header o past) ours silent) file
    by_file false file =
        ap (λ x. newer x (if is_file header o then Some (start_page header outside o p) else None)) (c.0 file)
        ∙ ap (λ b. newer None (if b then Some (start_page header outside o p) else None)) file

down : (header : Header) (outside : Outside) (doing : Command) (host o control : ℕ) (m : Message) (past : List Event)
    → is_covered header outside o past ≡ true
    → L.MaySendDown header outside doing host o control m past → S.MaySendDown header outside host o control m past
down header outside doing host o control (message.Supply page lock precious bytes) past ours (c, reads, lock_is, precious_is, returned, has) = (
  answers header outside host o control page.0 past c,
  λ silent. kept_is header outside host o page.0 past silent
      ∙ has (private_tells header outside o (stem header o past) ours silent),
)
down header outside doing host o control (message.Unavailable page) past ours (c, reads, may) =
    (answers header outside host o control page.0 past c, λ silent. lacks header outside host o page.0 past ours silent may)
down header outside doing host o control (message.Error page reason) past ours (c, reason_is, fault) = answers header outside host o control page.0 past c
down header outside doing host o control (message.Lock page count returns flush lock reply) past ours c = c.1
down header outside doing host o control (message.Ready cache strategy) past ours c = tt
down header outside doing host o control other past ours c = tt

-- no pager destroys a private object
private_destroyed : {A : Type 0} (header : Header) (outside : Outside) (host o : ℕ) (past : List Event) → is_covered header outside o past ≡ true
    → IsDestroyed header host o past → A
private_destroyed header outside host o past ours destroyed =
    absurd (let bad : false ≡ true = sym (paged_tame header o (private_paged header outside o (stem header o past) ours)) ∙ destroyed.wild in cc)

-- so one ends because no region leads to it, or nothing holds it
record EndsUnasked (header : Header) (host o : ℕ) (past : List Event) : Type 0 where
  unreached : named header ≤ o → W.Reach header host o past → ⊥
  unasked : (page : ℕ) → (page_on header host o page past).asked ≡ false

ended : (header : Header) (outside : Outside) (host o : ℕ) (past : List Event) → is_covered header outside o past ≡ true → L.EndCause header host o past
    → EndsUnasked header host o past
ended header outside host o past ours (L.Unreachable above gone unasked) = record { unreached = λ temporary. gone; unasked = unasked }
ended header outside host o past ours (L.Unheld below unheld unasked) =
    record { unreached = λ temporary reach. absurd (omega (arith, below, temporary)); unasked = unasked }
ended header outside host o past ours (L.Destroyed destroyed) = private_destroyed header outside host o past ours destroyed

up : (header : Header) (outside : Outside) (doing : Command) (host o : ℕ) (m : Message) (past : List Event) → EachEvent (HasCause header outside) past
    → is_covered header outside o past ≡ true → L.MaySendUp header doing host o m past → S.MaySendUp header outside host o m past
up header outside doing host o (message.Init number size) past caused ours c =
    record {
      declared = c.declared;
      none = unopened header host o past (declared_covered header outside o (stem header o past) ours c.declared) c.none;
      task = c.task;
      address = c.address;
      at = c.at;
      on_host = c.on_host;
      region = c.region;
    }
up header outside doing host o (message.Create number size) past caused ours c =
    (c.number, c.temporary, (unmade header outside host o past caused c.never).control, c.page, c.here)
up header outside doing host o (message.Request number page access) past caused ours c = c
up header outside doing host o (message.Return number page dirty keep bytes) past caused ours c =
    record {
      live = c.live;
      here = c.here;
      dirty = let plain = unprecious header outside host o page.0 past caused (private_paged header outside o (stem header o past) ours) in grind
          (arith, c.due, plain);
      same = c.same;
      flag = c.flag;
    }
up header outside doing host o (message.Terminate number) past caused ours c =
    let ends = ended header outside host o past ours c.why in
    record {
      live = c.live;
      unreached = λ above reach. ends.unreached above
          (reached header outside host o past reach);
      away = c.away;
      unasked = ends.unasked;
    }
up header outside doing host o other past caused ours c = tt

-- pages

leaves : (header : Header) (outside : Outside) (doing : Command) (host o p : ℕ) (past : List Event) (page : Local) → is_covered header outside o past ≡ true
    → L.DropCause header doing host o p page past
    → S.Leaves header outside host o p page.dirty past
leaves header outside doing host o p past page ours (L.Reclaimed clean plain why) = S.Clean clean
leaves header outside doing host o p past page ours (L.Unreached above gone) = S.Unreached above (λ reach. gone (reached header outside host o past reach))
leaves header outside doing host o p past page ours (L.Flushed returns locked spared) = S.Flushed returns page.precious locked spared
leaves header outside doing host o p past page ours (L.Discarded destroyed rising) = private_destroyed header outside host o past ours destroyed
leaves header outside doing host o p past page ours (L.Ended clean plain below unheld) = S.Clean clean

filled : (header : Header) (outside : Outside) (host o p : ℕ) (past : List Event) → EachEvent (HasCause header outside) past
    → is_covered header outside o past ≡ true → (L.Fills header host o p past ⊎ L.Bottoms header host o p past)
    → ((o < named header) × S.Fills (spot header outside host o p past) (page_on header host o p past)) ⊎ L.Bottoms header host o p past
filled header outside host o p past caused ours (inl c) =
    inl (
      c.declared,
      record {
        void = void_is header outside host o p past caused (declared_covered header outside o (stem header o past) ours c.declared) c.void c.once;
        away = c.away;
        unasked = c.unasked;
      },
    )
filled header outside host o p past caused ours (inr c) = inr c

entered : (header : Header) (outside : Outside) (task bytes region offset : ℕ) (past : List Event) → EachEvent (HasCause header outside) past
    → L.Enters header task bytes region offset past → S.Enters header outside task bytes region offset past
entered header outside task bytes region offset past caused c =
    record {
      host = c.host;
      lives = c.lives;
      whole = c.whole;
      inside = c.inside;
      made = c.made;
      used = λ ours. counted header outside c.host region past caused ours (by_file ours (is_file header region) refl);
      unfilled = c.unfilled;
    }
  where
    by_file : is_private header outside region past ≡ true → (b : Bool) → is_file header region ≡ b → V.in_use header c.host region past ≡ true
    by_file ours true file = c.file file
    by_file ours false file = c.used (not_below header outside region (comes_from region past) ours file)

-- events

sustains : (header : Header) (outside : Outside) (doing : Command) (e : Event) (past : List Event) → EachEvent (HasCause header outside) past
    → Caused header outside doing e past → Sustained header outside e past
sustains header outside doing (event.RegionMade region object pages) past caused c = c
sustains header outside doing (event.RegionCopied region source offset pages) past caused c = c
sustains header outside doing (event.Delayed region source offset pages copy) past caused c = c
sustains header outside doing (event.Entered task address bytes region offset prot inherit) past caused c =
    entered header outside task.0 bytes region.0 offset past caused c
sustains header outside doing (event.Shadowed region new old) past caused c = c
sustains header outside doing (event.Unmarked region) past caused c = c
sustains header outside doing (event.Merged upper lower) past caused c =
    record {
      host = c.host;
      home = c.home;
      pair = c.pair;
      upper_none = (unmade header outside c.host upper.0 past caused c.pair.upper_never).control;
      lower_none = (unmade header outside c.host lower.0 past caused c.pair.lower_never).control;
    }
sustains header outside doing (event.Loaded task object page value) past caused c = c
sustains header outside doing (event.Stored task object page at bytes value) past caused c = c
sustains header outside doing (event.CopiedPage task page object object_page target) past caused c = c
sustains header outside doing (event.Zeroed host object page) past caused c = λ ours. filled header outside host.0 object.0 page.0 past caused ours c
sustains header outside doing (event.Raised host lower lower_page upper upper_page) past caused c = c
sustains header outside doing (event.Dropped host object page) past caused c = λ ours.
    record { here = c.here; why = leaves header outside doing host.0 object.0 page.0 past (page_on header host.0 object.0 page.0 past) ours c.why }
sustains header outside doing (event.Sent (Up host object) m) past caused c = λ ours. up header outside doing host.0 object.0 m past caused ours c
sustains header outside doing (event.Sent (Down host object control) m) past caused c = λ ours.
    down header outside doing host.0 object.0 control m past ours (paged_may header outside doing host.0 object.0 control m past
    (private_paged header outside object.0 (stem header object.0 past) ours) c)
sustains header outside doing (event.Taken channel m) past caused c = c.0
sustains header outside doing other past caused c = tt

-- each event of a history whose events have their causes
pub sustained : (header : Header) (outside : Outside) (past : List Event) → EachEvent (HasCause header outside) past → AllSustained header outside past
sustained header outside [] caused = tt
sustained header outside (e ∷ past) caused =
    (by_cause header outside e past caused.0 (λ doing c. sustains header outside doing e past caused.1 c), sustained header outside past caused.1)
