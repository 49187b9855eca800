-- Where each answer of a file's pager carries what that has, each event has its cause as if the files were told; and the other way round.
use Rattle.std.proofs.Common.{ℕ, ◌≡◌, List, [], ◌∷◌, Bool, true, false, Option, Some, None, refl}
use Rattle.std.specs.Prelude.{◌&&◌, not, if◌then◌else◌}
use Rattle.vm_base.specs.declared.ids.ObjectKind.{ObjectKind}
use Rattle.vm_base.specs.declared.ids.ObjectKind.TheVariants.{Temp, File, Shared, Wild}
use Rattle.vm_model.specs.declared.command.Command.{Command}
use Rattle.vm_model.specs.declared.event.Event.{Event}
use Rattle.vm_model.specs.declared.event.Event.TheVariants as event
use Rattle.vm_model.specs.declared.message.Channel.TheVariants.{Down}
use Rattle.vm_model.specs.declared.message.Message.{Message}
use Rattle.vm_model.specs.declared.message.Message.TheVariants as message
use Rattle.vm_model.specs.declared.script.Header.{Header}
use Rattle.vm_model.specs.Moments.{EachEvent}
use Rattle.vm_legal.proofs.Served.{paged_may}
use Rattle.vm_legal.specs.Bytes.{CopiesCurrent, FlatBytes, LoadsCurrent, OwnBytes}
use Rattle.vm_legal.specs.Licences.{Caused, HasCause, MaySendDown, PagerSends}
use Rattle.vm_legal.specs.Outside.{Outside, are_untold, is_file, kind_of, start_page, zeros}
use Rattle.vm_legal.specs.Pagers.{last_return, newer}
use Rattle.vm_flat.specs.Told.{AnswersTold, IsToldAnswer, told, untold}
use Rattle.vm_flat.proofs.Loads.{answers}
use Rattle.vm_legal.proofs.Files.{file_paged}

-- f: the object is a file; u: the files are not told

supplies : (f u paging : Bool) (last : Option (List ℕ)) (start page bytes : List ℕ)
    → ((if f then not (u && f) else paging) ≡ true → newer last (if f then Some start else None) ≡ Some bytes)
    → (f ≡ true → newer last (Some page) ≡ Some bytes) → (if f then true else paging) ≡ true → newer last (if f then Some page else None) ≡ Some bytes
supplies true u paging last start page bytes was has is = has refl
supplies false u paging last start page bytes was has is = was is

lacks : (f : Bool) (last : Option (List ℕ)) (page none : List ℕ) → (f ≡ true → newer last (Some page) ≡ Some none) → f ≡ true
    → newer last (if f then Some page else None) ≡ Some none
lacks true last page none has is = has refl
lacks false last page none has is = absurd (let bad : false ≡ true = is in cc)

told_down : (header : Header) (outside : Outside) (pages : ℕ → ℕ → List ℕ) (why : Command) (host object control : ℕ) (m : Message) (past : List Event)
    → MaySendDown header outside why host object control m past → IsToldAnswer header pages host object m past
    → MaySendDown header (told outside pages) why host object control m past
told_down header outside pages why host object control (message.Supply page lock precious bytes) past c has = (
  c.0,
  c.1,
  c.2,
  c.3,
  c.4,
  supplies (is_file header object) (are_untold outside.files) outside.paging (last_return host object page.0 past) (start_page header outside object page.0)
      (pages object page.0) bytes c.5 has,
)
told_down header outside pages why host object control (message.Unavailable page) past c has =
    (c.0, c.1, (c.2.0, λ tells. lacks (is_file header object) (last_return host object page.0 past) (pages object page.0) (zeros header) has))
told_down header outside pages why host object control other past c has = c

told_sends : (kind : ObjectKind) (header : Header) (outside : Outside) (pages : ℕ → ℕ → List ℕ) (why : Command) (host object control : ℕ) (m : Message)
    (past : List Event)
    → PagerSends kind header outside why host object control m past → IsToldAnswer header pages host object m past
    → PagerSends kind header (told outside pages) why host object control m past
told_sends Temp header outside pages why host object control m past c has = told_down header outside pages why host object control m past c has
told_sends File header outside pages why host object control m past c has = told_down header outside pages why host object control m past c has
told_sends Shared header outside pages why host object control m past c has = c
told_sends Wild header outside pages why host object control m past c has = c

told_caused : (header : Header) (outside : Outside) (pages : ℕ → ℕ → List ℕ) (why : Command) (e : Event) (past : List Event) → Caused header outside why e past
    → AnswersTold header pages e past → Caused header (told outside pages) why e past
told_caused header outside pages why (event.Sent (Down host object control) m) past c has =
    told_sends (kind_of header object.0) header outside pages why host.0 object.0 control m past c has
told_caused header outside pages why other past c has = c

pub told_causes : (header : Header) (outside : Outside) (pages : ℕ → ℕ → List ℕ) (history : List Event) → EachEvent (HasCause header outside) history
    → EachEvent (AnswersTold header pages) history → EachEvent (HasCause header (told outside pages)) history
told_causes header outside pages [] causes has = tt
told_causes header outside pages (e ∷ past) causes has =
    ((causes.0.0, told_caused header outside pages causes.0.0 e past causes.0.1 has.0), told_causes header outside pages past causes.1 has.1)

pub told_answers : (header : Header) (outside : Outside) (pages : ℕ → ℕ → List ℕ) (history : List Event) → EachEvent (HasCause header outside) history
    → EachEvent (AnswersTold header pages) history
    → EachEvent (OwnBytes header) history → EachEvent (CopiesCurrent header (told outside pages)) history
    → EachEvent (LoadsCurrent header (told outside pages)) history → EachEvent (FlatBytes header (told outside pages)) history
told_answers header outside pages history causes has own copies loads =
    answers header (told outside pages) history (told_causes header outside pages history causes has) own copies loads

-- the other way round

supplied : (f paging : Bool) (last : Option (List ℕ)) (page bytes : List ℕ)
    → ((if f then true else paging) ≡ true → newer last (if f then Some page else None) ≡ Some bytes) → f ≡ true → newer last (Some page) ≡ Some bytes
supplied true paging last page bytes was is = was refl
supplied false paging last page bytes was is = absurd (let bad : false ≡ true = is in cc)

lacked : (f paging : Bool) (last : Option (List ℕ)) (page none : List ℕ)
    → ((if f then true else paging) ≡ true → f ≡ true → newer last (if f then Some page else None) ≡ Some none) → f ≡ true → newer last (Some page) ≡ Some none
lacked true paging last page none was is = was refl refl
lacked false paging last page none was is = absurd (let bad : false ≡ true = is in cc)

told_answer : (header : Header) (outside : Outside) (pages : ℕ → ℕ → List ℕ) (why : Command) (host object control : ℕ) (m : Message) (past : List Event)
    → (is_file header object ≡ true → MaySendDown header (told outside pages) why host object control m past) → IsToldAnswer header pages host object m past
told_answer header outside pages why host object control (message.Supply page lock precious bytes) past may =
    λ filed. supplied (is_file header object) outside.paging (last_return host object page.0 past) (pages object page.0) bytes (may filed).5 filed
told_answer header outside pages why host object control (message.Unavailable page) past may =
    λ filed. lacked (is_file header object) outside.paging (last_return host object page.0 past) (pages object page.0) (zeros header) (may filed).2.1 filed
told_answer header outside pages why host object control other past may = tt

told_event : (header : Header) (outside : Outside) (pages : ℕ → ℕ → List ℕ) (why : Command) (e : Event) (past : List Event)
    → Caused header (told outside pages) why e past → AnswersTold header pages e past
told_event header outside pages why (event.Sent (Down host object control) m) past c =
    told_answer header outside pages why host.0 object.0 control m past (λ filed. paged_may header (told outside pages) why host.0 object.0 control m past
    (file_paged header object.0 filed) c)
told_event header outside pages why other past c = tt

pub each_told : (header : Header) (outside : Outside) (pages : ℕ → ℕ → List ℕ) (history : List Event) → EachEvent (HasCause header (told outside pages)) history
    → EachEvent (AnswersTold header pages) history
each_told header outside pages [] causes = tt
each_told header outside pages (e ∷ past) causes = (told_event header outside pages causes.0.0 e past causes.0.1, each_told header outside pages past causes.1)

untold_supplies : (f paging : Bool) (last : Option (List ℕ)) (page none bytes : List ℕ)
    → ((if f then true else paging) ≡ true → newer last (if f then Some page else None) ≡ Some bytes) → (if f then not f else paging) ≡ true
    → newer last (if f then Some none else None) ≡ Some bytes
untold_supplies true paging last page none bytes was is = absurd (let bad : false ≡ true = is in cc)
untold_supplies false paging last page none bytes was is = was is

untold_lacks : (f paging : Bool) (last : Option (List ℕ)) (none : List ℕ) → (if f then not f else paging) ≡ true → f ≡ true
    → newer last (if f then Some none else None) ≡ Some none
untold_lacks true paging last none tells is = absurd (let bad : false ≡ true = tells in cc)
untold_lacks false paging last none tells is = absurd (let bad : false ≡ true = is in cc)

untold_down : (header : Header) (outside : Outside) (pages : ℕ → ℕ → List ℕ) (why : Command) (host object control : ℕ) (m : Message) (past : List Event)
    → MaySendDown header (told outside pages) why host object control m past
    → MaySendDown header (untold outside) why host object control m past
untold_down header outside pages why host object control (message.Supply page lock precious bytes) past c = (
  c.0,
  c.1,
  c.2,
  c.3,
  c.4,
  untold_supplies (is_file header object) outside.paging (last_return host object page.0 past) (pages object page.0) (zeros header)
      bytes c.5,
)
untold_down header outside pages why host object control (message.Unavailable page) past c =
    (c.0, c.1, (c.2.0, untold_lacks (is_file header object) outside.paging (last_return host object page.0 past) (zeros header)))
untold_down header outside pages why host object control other past c = c

untold_sends : (kind : ObjectKind) (header : Header) (outside : Outside) (pages : ℕ → ℕ → List ℕ) (why : Command) (host object control : ℕ) (m : Message)
    (past : List Event)
    → PagerSends kind header (told outside pages) why host object control m past → PagerSends kind header (untold outside) why host object control m past
untold_sends Temp header outside pages why host object control m past c = untold_down header outside pages why host object control m past c
untold_sends File header outside pages why host object control m past c = untold_down header outside pages why host object control m past c
untold_sends Shared header outside pages why host object control m past c = c
untold_sends Wild header outside pages why host object control m past c = c

untold_caused : (header : Header) (outside : Outside) (pages : ℕ → ℕ → List ℕ) (why : Command) (e : Event) (past : List Event)
    → Caused header (told outside pages) why e past → Caused header (untold outside) why e past
untold_caused header outside pages why (event.Sent (Down host object control) m) past c =
    untold_sends (kind_of header object.0) header outside pages why host.0 object.0 control m past c
untold_caused header outside pages why other past c = c

pub untold_causes : (header : Header) (outside : Outside) (pages : ℕ → ℕ → List ℕ) (history : List Event)
    → EachEvent (HasCause header (told outside pages)) history → EachEvent (HasCause header (untold outside)) history
untold_causes header outside pages [] causes = tt
untold_causes header outside pages (e ∷ past) causes =
    ((causes.0.0, untold_caused header outside pages causes.0.0 e past causes.0.1), untold_causes header outside pages past causes.1)
