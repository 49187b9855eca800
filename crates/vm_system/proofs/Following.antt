-- What the kernels say leaves the pagers and what was stored.
use Rattle.vm_system.proofs.Common.{Agrees, AllFilesServe, AllInner, AllServe, AllServed, AllTold, Bool, CanTellAll, Command, Content, EachIn, Event}
use Rattle.vm_system.proofs.Common.{FilesAreKept, FilesCarry, Followed, Going, Header, HostId, HostTable, HostsPart, IsOrderly, IsPaid, Lawful, List, Outside}
use Rattle.vm_system.proofs.Common.{PagerHasAnswered, PagingIsKept, Posts, SameHosts, ServerStands, SlotTable, SlotsFit, Some, SomeKernelSays, Spares}
use Rattle.vm_system.proofs.Common.{SparesFiles, SparesPaging, State, Stretch, Told, ap, content_of, devices, paid_more, refl, reverse, slice_get, subst, sym}
use Rattle.vm_system.proofs.Common.{true, ℕ, ◌++◌, ◌∙◌, ◌≡◌, ServerTable}
use Rattle.vm_model.specs.declared.event.Device.TheVariants.{Files, Paging}
use Rattle.vm_model.specs.declared.event.Event.TheVariants as event
use Rattle.vm_system.proofs.Agreeing.{carry_spared, content_stays, devices_said, files_spared, serve_said, spared_said}
use Rattle.vm_system.proofs.Lawfulness.{lawful_more, others_said, recalled_more, served_more, server_more}
use Rattle.vm_system.proofs.Sayings.{can_say, orderly_said}
use Rattle.vm_system.proofs.Silent.{all_settled}
use Rattle.vm_legal.specs.InTurn.{AllRecalled}
use Rattle.vm_legal.specs.Serving.{HostsServed}
use Rattle.vm_hosts.specs.Steps.{PartInTurn}
use Rattle.vm_system.proofs.Served.{served_up}
use Rattle.std.proofs.Common.{[], ◌∷◌}
use Rattle.vm_model.specs.declared.message.Channel.TheVariants.{Up}

pub same_pagers : (old new : State) → SameHosts old new → new.pagers.items ≡ old.pagers.items
same_pagers old new same = rw same.pagers refl

pub same_files : (old new : State) → SameHosts old new → new.files.items ≡ old.files.items
same_files old new same = rw same.files refl

pub same_declared : (old new : State) → SameHosts old new → new.declared.items ≡ old.declared.items
same_declared old new same = rw same.declared refl

-- slots and areas of each pager fit what the history has stored
abbrev pub AllFit : Header → (List ℕ → Told) → List SlotTable → List Event → Type 0
AllFit header areas pagers history = (h : ℕ) (pager : SlotTable) → slice_get pagers h ≡ Some pager → SlotsFit areas pager (content_of header h history)

-- where pagers and history are these
pub kept_at : (header : Header) (outside : Outside) (areas : List ℕ → Told) (s : State) (pagers : List SlotTable) (history : List Event)
    → s.pagers.items ≡ pagers → s.history.items ≡ history → AllServe header pagers history
    → (outside.paging ≡ true → AllTold areas pagers) → (outside.paging ≡ true → AllFit header areas pagers history) → PagingIsKept header outside areas s
kept_at header outside areas s pagers history are items serve told fit = record {
  pagers = rw (are, items) serve;
  told = λ on. subst (λ (z : List SlotTable). AllTold areas z) (sym are) (told on);
  fits =
      λ on. subst (λ (z : List SlotTable). AllFit header areas z s.history.items) (sym are)
      (subst (λ (z : List Event). AllFit header areas pagers z) (sym items) (fit on));
}

-- pagers and history are as they were
pub kept_same : (header : Header) (outside : Outside) (areas : List ℕ → Told) (old new : State) → new.pagers.items ≡ old.pagers.items
    → new.history.items ≡ old.history.items → PagingIsKept header outside areas old → PagingIsKept header outside areas new
kept_same header outside areas old new pagers items kept =
    kept_at header outside areas new old.pagers.items old.history.items pagers items kept.pagers kept.told kept.fits

-- contents that are the same fit alike
pub fit_same : (header : Header) (areas : List ℕ → Told) (pagers : List SlotTable) (past now : List Event)
    → ((h : ℕ) → content_of header h now ≡ content_of header h past) → AllFit header areas pagers past → AllFit header areas pagers now
fit_same header areas pagers past now same fit h pager at = subst (λ (z : Content). SlotsFit areas pager z) (sym (same h)) (fit h pager at)

-- what kernels say came behind a past whose contents are those of the history
pub kept_behind : (header : Header) (outside : Outside) (areas : List ℕ → Told) (old new : State) (events past : List Event)
    → AllServe header old.pagers.items past → ((h : ℕ) → content_of header h past ≡ content_of header h old.history.items)
    → EachIn (SomeKernelSays header) events past → AllInner events → new.pagers.items ≡ old.pagers.items → new.history.items ≡ events ++ past
    → PagingIsKept header outside areas old → PagingIsKept header outside areas new
kept_behind header outside areas old new events past serve front said inner pagers items kept =
    kept_at header outside areas new old.pagers.items (events ++ past) pagers items (serve_said header old.pagers.items events past said inner serve) kept.told
    (λ on. fit_same header areas old.pagers.items old.history.items (events ++ past) (λ h. content_stays header h events past said inner ∙ front h)
    (kept.fits on))

-- what the files' pagers were told is kept, where they stand for what is told now
pub filed_spares : (header : Header) (outside : Outside) (old new : State) → AllFilesServe header new.files.items new.history.items
    → ((start areas : List ℕ → Told) → FilesCarry header start areas old.history.items → FilesCarry header start areas new.history.items)
    → devices Files new.history.items ≡ devices Files old.history.items → SparesFiles header outside old new
filed_spares header outside old new serve carried same = record {
  kept = λ areas kept. record { files = serve; start = kept.start; told = kept.told; kept = carried kept.start areas kept.kept };
  carried = carried;
  devices = same;
}

-- files' pagers and history are as they were
pub filed_same : (header : Header) (outside : Outside) (areas : List ℕ → Told) (old new : State) → new.files.items ≡ old.files.items
    → new.history.items ≡ old.history.items → FilesAreKept header outside areas old → FilesAreKept header outside areas new
filed_same header outside areas old new files items kept =
    record { files = rw (files, items) kept.files; start = kept.start; told = kept.told; kept = rw items kept.kept }

-- nothing was told, and the pagers are as they were

pub same_paging : (header : Header) (outside : Outside) (old new : State) → new.pagers.items ≡ old.pagers.items → new.history.items ≡ old.history.items
    → SparesPaging header outside old new
same_paging header outside old new pagers items =
    record { kept = λ areas kept. kept_same header outside areas old new pagers items kept; devices = ap (devices Paging) items }

pub same_filing : (header : Header) (outside : Outside) (old new : State) → new.files.items ≡ old.files.items → new.history.items ≡ old.history.items
    → SparesFiles header outside old new
same_filing header outside old new files items = record {
  kept = λ areas kept. filed_same header outside areas old new files items kept;
  carried = λ start areas carry. rw items carry;
  devices = ap (devices Files) items;
}

pub same_all : (header : Header) (outside : Outside) (old new : State) → new.pagers.items ≡ old.pagers.items → new.files.items ≡ old.files.items
    → new.history.items ≡ old.history.items → Spares header outside old new
same_all header outside old new pagers files items =
    record { paging = same_paging header outside old new pagers items; files = same_filing header outside old new files items }

-- one part of a step behind another

pub both_paging : (header : Header) (outside : Outside) (old mid new : State) → SparesPaging header outside old mid → SparesPaging header outside mid new
    → SparesPaging header outside old new
both_paging header outside old mid new one two = record { kept = λ areas kept. two.kept areas (one.kept areas kept); devices = two.devices ∙ one.devices }

pub both_filing : (header : Header) (outside : Outside) (old mid new : State) → SparesFiles header outside old mid → SparesFiles header outside mid new
    → SparesFiles header outside old new
both_filing header outside old mid new one two =
    record {
      kept = λ areas kept. two.kept areas (one.kept areas kept);
      carried = λ start areas carry. two.carried start areas (one.carried start areas carry);
      devices = two.devices ∙ one.devices;
    }

pub both_spares : (header : Header) (outside : Outside) (old mid new : State) → Spares header outside old mid → Spares header outside mid new
    → Spares header outside old new
both_spares header outside old mid new one two =
    record { paging = both_paging header outside old mid new one.paging two.paging; files = both_filing header outside old mid new one.files two.files }

-- what agrees with the history does so behind what kernels said
pub agrees_said : (header : Header) (outside : Outside) (doing : Command) (past events : List Event) (s : State) → IsOrderly header (events ++ past)
    → AllServe header s.pagers.items past → AllFilesServe header s.files.items past
    → ServerStands header s.server past → Lawful header outside past → s.declared.items ≡ reverse header.objects.items
    → Stretch header outside doing past events → s.size ≡ header.size → s.history.items ≡ events ++ past → Posts s s.history.items
    → Agrees header outside s
agrees_said header outside doing past events s orderly serve files server lawful declared stretch size items posts = record {
  size = size;
  declared = declared;
  pagers = rw items (serve_said header s.pagers.items events past stretch.said stretch.inner serve);
  files = rw items (files_spared header s.files.items events past (spared_said header events past stretch.said) files);
  server = rw items (server_more header s.server events past (others_said header events past stretch.said) server);
  posts = posts;
  orderly = rw items orderly;
  lawful = rw items (lawful_more header outside doing events past stretch.licensed stretch.own_bytes stretch.inner lawful);
}

-- what the hosts do behind an answer can be told
pub can_follow : (given : Going) (host : HostId) (washed : Bool) (old : State) (hosts : HostTable) (events : List Event)
    → PagerHasAnswered given host washed old
    → HostsPart given.header given.outside given.command (given.front ++ given.past) hosts events → CanTellAll old.size events old.history.items
can_follow given host washed old hosts events answered passed =
    let past = given.front ++ given.past in
    let stretch = passed.follows.stretch in
    let orderly : IsOrderly given.header past = subst (λ (z : List Event). IsOrderly given.header z) answered.is answered.agrees.orderly in
    rw (answered.agrees.size, answered.is) (can_say given.header given.outside given.command past events orderly stretch.licensed stretch.said stretch.inner)

-- and is told
pub followed : (given : Going) (host : HostId) (washed : Bool) (old new : State) (events : List Event) → PagerHasAnswered given host washed old
    → HostsPart given.header given.outside given.command (given.front ++ given.past) new.hosts events → new.size ≡ old.size
    → new.pagers.items ≡ old.pagers.items → new.files.items ≡ old.files.items → new.declared.items ≡ old.declared.items
    → new.server ≡ old.server → new.history.items ≡ events ++ old.history.items → Posts new new.history.items → new.log.items ≡ [] → Followed given new
followed given host washed old new events answered passed size pagers files declared server items posts none =
    let past = given.front ++ given.past in
    let header = given.header in
    let stretch = passed.follows.stretch in
    let now : new.history.items ≡ events ++ past = items ∙ ap (λ (z : List Event). events ++ z) answered.is in
    let orderly : IsOrderly header past = subst (λ (z : List Event). IsOrderly header z) answered.is answered.agrees.orderly in
    let serve : AllServe header new.pagers.items past = rw pagers (subst (λ (z : List Event). AllServe header old.pagers.items z) answered.is
    answered.agrees.pagers) in
    let filed : AllFilesServe header new.files.items past = rw files (subst (λ (z : List Event). AllFilesServe header old.files.items z) answered.is
    answered.agrees.files) in
    let heard : ServerStands header new.server past = subst (λ (z : ServerTable). ServerStands header z past) (sym server)
    (subst (λ (z : List Event). ServerStands header old.server z) answered.is answered.agrees.server) in
    let lawful : Lawful header given.outside past = subst (λ (z : List Event). Lawful header given.outside z) answered.is answered.agrees.lawful in
    let owed : IsPaid header past = subst (λ (z : List Event). IsPaid header z) answered.is answered.paid in
    let served : AllServed header past = subst (λ (z : List Event). AllServed header z) answered.is answered.served in
    let recalled : AllRecalled header past = subst (λ (z : List Event). AllRecalled header z) answered.is answered.recalled in
    let step = answered.answers in
    let part : PartInTurn header ((step.told ++ event.Taken (Up host step.object) step.m ∷ []) ++ given.past) events = subst
    (λ (z : List Event). PartInTurn header (z ++ given.past) events) step.is passed.turns in
    let turns : HostsServed header (events ++ past) = subst (λ (z : List Event). HostsServed header (events ++ (z ++ given.past))) (sym step.is)
    (served_up header host step.object step.m step.told events given.past step.inner step.nobodys stretch.inner part) in
    record {
      stands = record {
        built = answered.built;
        rests = rw now passed.ended.rests;
        queues = rw now passed.ended.queues;
        agrees = agrees_said header given.outside given.command past events new
            (orderly_said header given.outside given.command past events orderly stretch.licensed stretch.said stretch.inner) serve filed heard lawful
            (declared ∙ answered.agrees.declared) stretch (size ∙ answered.agrees.size) now posts;
        paid = rw now (paid_more header events past stretch.inner owed (all_settled header new.hosts (events ++ past) passed.ended.rests));
        served = rw now (served_more header events past (others_said header events past stretch.said) served);
        recalled = rw now (recalled_more header events past (others_said header events past stretch.said) recalled);
        log = none;
      };
      more = events;
      is = now;
      follows = passed.follows;
      prompt = rw now passed.ended.prompt;
      turns = rw now turns;
    }

-- and leaves what was stored
pub kept_followed : (given : Going) (host : HostId) (washed : Bool) (old new : State) (hosts : HostTable) (events : List Event)
    → PagerHasAnswered given host washed old
    → HostsPart given.header given.outside given.command (given.front ++ given.past) hosts events → new.pagers.items ≡ old.pagers.items
    → new.files.items ≡ old.files.items → new.history.items ≡ events ++ old.history.items
    → Spares given.header given.outside old new
kept_followed given host washed old new hosts events answered passed pagers files items =
    let header = given.header in
    let stretch = passed.follows.stretch in
    let said : EachIn (SomeKernelSays header) events old.history.items = rw answered.is stretch.said in
    record {
      paging = record {
        kept =
            λ areas kept. kept_behind header given.outside areas old new events old.history.items kept.pagers (λ h. refl) said stretch.inner pagers items kept;
        devices = ap (devices Paging) items ∙ devices_said Paging header events old.history.items said;
      };
      files =
          filed_spares header given.outside old new (rw (
            files,
            items,
          ) (files_spared header old.files.items events old.history.items (spared_said header events old.history.items said) answered.agrees.files))
          (λ start areas carry. rw items (carry_spared header start areas events old.history.items (spared_said header events old.history.items said) carry))
          (ap (devices Files) items ∙ devices_said Files header events old.history.items said);
    }
