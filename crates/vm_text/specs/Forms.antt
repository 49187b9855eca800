-- The form of each line of a script: its words, from left to right.
use Rattle.std.specs.Prelude.{Bool, Err, List, None, Ok, Option, Result, Some, [], codes, false, if◌then◌else◌, is_some, length, nat_le, nat_lt, replicate}
use Rattle.std.specs.Prelude.{reverse, slice_set, true, ℕ, ◌%◌, ◌-◌, ◌==◌, ◌^◌, ◌||◌, ◌∷◌, ◌≡◌}
use Rattle.std.specs.Option.{unwrap_or}
use Rattle.std.specs.Str.{bytes_eq}
use Rattle.vm_base.specs.Limits.{address_end, last_page, least_frames, most_frames, most_hosts, most_objects, most_pages, most_slots, most_tasks}
use Rattle.vm_base.specs.declared.ids.HostId.{HostId}
use Rattle.vm_base.specs.declared.ids.Inherit.{Inherit}
use Rattle.vm_base.specs.declared.ids.Inherit.TheVariants as inherits
use Rattle.vm_base.specs.declared.ids.ObjectId.{ObjectId}
use Rattle.vm_base.specs.declared.ids.ObjectKind.{ObjectKind}
use Rattle.vm_base.specs.declared.ids.ObjectKind.TheVariants as kinds
use Rattle.vm_base.specs.declared.ids.PageNo.{PageNo}
use Rattle.vm_base.specs.declared.ids.Prot.{Prot}
use Rattle.vm_base.specs.declared.ids.TaskId.{TaskId}
use Rattle.vm_model.specs.declared.command.Command.{Command}
use Rattle.vm_model.specs.declared.command.Command.TheVariants as commands
use Rattle.vm_model.specs.declared.fault.ScriptFault.{ScriptFault}
use Rattle.vm_model.specs.declared.fault.ScriptFault.TheVariants.{UnknownWord, WrongCount, OutOfRange, NoHosts}
use Rattle.vm_model.specs.declared.message.Channel.{Channel}
use Rattle.vm_model.specs.declared.message.Channel.TheVariants as channels
use Rattle.vm_model.specs.declared.message.Message.TheVariants as messages
use Rattle.vm_model.specs.declared.script.Declared.{Declared}
use Rattle.vm_model.specs.declared.script.Header.{Header}
use Rattle.vm_model.specs.Limits.{most_calls, most_takings}
use Rattle.vm_model.specs.Name.{is_name}
use Rattle.vm_text.specs.declared.meaning.CommandWord.{CommandWord}
use Rattle.vm_text.specs.declared.meaning.CommandWord.TheVariants as says
use Rattle.vm_text.specs.declared.meaning.HeaderWord.{HeaderWord}
use Rattle.vm_text.specs.declared.meaning.HeaderWord.TheVariants as heads
use Rattle.vm_text.specs.declared.meaning.MessageWord.{MessageWord}
use Rattle.vm_text.specs.declared.meaning.MessageWord.TheVariants as sends
use Rattle.vm_text.specs.Words.{five_words, flag_of, four_words, is_dot, number_below, number_between, number_of, one_word, page_bytes_of, pieces, six_words}
use Rattle.vm_text.specs.Words.{three_words, two_words, word_in, ◌>>=◌}

-- What the header lines have said so far. The frames are those of each host, from host 0 on, and none
-- before the line with the hosts. The objects have the newest first.
pub record Heading : Type 0 where
  pub size : Option ℕ
  pub slots : Option ℕ
  pub frames : List ℕ
  pub objects : List Declared

-- the bytes of a page, where no line gives them
abbrev pub usual_size : ℕ
usual_size = 4096

-- the slots of a host, where no line gives them
abbrev pub usual_slots : ℕ
usual_slots = 1024

abbrev pub size_of : Heading → ℕ
size_of heading = unwrap_or heading.size usual_size

abbrev pub slots_of : Heading → ℕ
slots_of heading = unwrap_or heading.slots usual_slots

-- what the header lines have said, as a script has it
pub record IsHeader (heading : Heading) (header : Header) : Type 0 where
  pub size : header.size ≡ size_of heading
  pub slots : header.slots ≡ slots_of heading
  pub frames : header.frames.items ≡ reverse heading.frames
  pub objects : header.objects.items ≡ heading.objects

-- ---- fields

abbrev pub task_of : List ℕ → Result TaskId ScriptFault
task_of word = do
  task ← number_below most_tasks word
  Ok (record { 0 = task })

abbrev pub host_in_word : Heading → List ℕ → Result HostId ScriptFault
host_in_word heading word = do
  host ← number_below (length heading.frames) word
  Ok (record { 0 = host })

abbrev pub page_number : ℕ → List ℕ → Result PageNo ScriptFault
page_number most word = do
  page ← number_between 0 most word
  Ok (record { 0 = page })

-- the number of the object that has this name
abbrev pub declared_at : List ℕ → List Declared → Option ℕ
declared_at name [] = None
declared_at name (object ∷ objects) =
    if bytes_eq object.name name then Some (length objects) else declared_at name objects

abbrev pub object_of : Heading → List ℕ → Result ObjectId ScriptFault
object_of heading word = elim (declared_at word heading.objects) [
  | None ↦ Err UnknownWord
  | Some object ↦ Ok (record { 0 = object })
]

-- a name that may be declared next
abbrev pub new_name : Heading → List ℕ → Result (List ℕ) ScriptFault
new_name heading word =
    if is_name word then (if is_some (declared_at word heading.objects) || nat_le most_objects (length heading.objects) then Err OutOfRange else Ok word)
    else Err UnknownWord

-- a number of this list
abbrev pub one_of : List ℕ → ℕ → Result ℕ ScriptFault
one_of [] number = Err OutOfRange
one_of (n ∷ ns) number = if number == n then Ok number else one_of ns number

abbrev pub page_size : List ℕ → Result ℕ ScriptFault
page_size word = number_of word >>= one_of (16 ∷ 32 ∷ 64 ∷ 128 ∷ 256 ∷ 512 ∷ 1024 ∷ 2048 ∷ 4096 ∷ [])

abbrev pub access_size : List ℕ → Result ℕ ScriptFault
access_size word = number_of word >>= one_of (1 ∷ 2 ∷ 4 ∷ 8 ∷ [])

-- the lock of a lock_request, where 8 leaves the lock as it is
abbrev pub lock_in_words : List ℕ → Result ℕ ScriptFault
lock_in_words word = number_of word >>= one_of (0 ∷ 1 ∷ 2 ∷ 3 ∷ 8 ∷ [])

-- 1 to read, 2 to write
abbrev pub prot_of : List ℕ → Result Prot ScriptFault
prot_of word = do
  number ← number_between 0 3 word
  Ok (record { read = number % 2 == 1; write = nat_le 2 number })

-- 0 shares, 1 copies, 2 leaves out
abbrev pub inherit_of : List ℕ → Result Inherit ScriptFault
inherit_of word = do
  number ← number_between 0 2 word
  Ok (if number == 0 then inherits.Share else (if number == 1 then inherits.Copy else inherits.Never))

-- a task, an address and a length in bytes
abbrev pub range_of : List ℕ → List ℕ → List ℕ → Result (TaskId × ℕ × ℕ) ScriptFault
range_of task address bytes = do
  owner ← task_of task
  start ← number_below address_end address
  size ← number_between 0 address_end bytes
  Ok (owner, start, size)

abbrev pub one_part : List (List ℕ) → Result (List ℕ) ScriptFault
one_part (a ∷ []) = Ok a
one_part _ = Err UnknownWord

abbrev pub two_parts : List (List ℕ) → Result (List ℕ × List ℕ) ScriptFault
two_parts (a ∷ b ∷ []) = Ok (a, b)
two_parts _ = Err UnknownWord

abbrev pub three_parts : List (List ℕ) → Result (List ℕ × List ℕ × List ℕ) ScriptFault
three_parts (a ∷ b ∷ c ∷ []) = Ok (a, b, c)
three_parts _ = Err UnknownWord

-- H.O
abbrev pub up_of : Heading → List ℕ → Result Channel ScriptFault
up_of heading word = do
  p ← two_parts (pieces is_dot word)
  host ← host_in_word heading p.0
  object ← number_below most_objects p.1
  Ok (channels.Up host (record { 0 = object }))

-- H.O.K
abbrev pub down_of : Heading → List ℕ → Result Channel ScriptFault
down_of heading word = do
  p ← three_parts (pieces is_dot word)
  host ← host_in_word heading p.0
  object ← number_below most_objects p.1
  control ← number_below (2 ^ 32) p.2
  Ok (channels.Down host (record { 0 = object }) control)

-- uH.O or dH.O.K
abbrev pub channel_of : Heading → List ℕ → Result Channel ScriptFault
channel_of heading [] = Err UnknownWord
channel_of heading (letter ∷ word) =
    if letter == 117 then up_of heading word else (if letter == 100 then down_of heading word else Err UnknownWord)

-- ---- header lines

abbrev pub header_words : List (List ℕ × HeaderWord)
header_words =
    (codes "hosts", heads.Hosts) ∷ (codes "frames", heads.Frames) ∷ (codes "page", heads.Page) ∷ (codes "slots", heads.Slots)
    ∷ (codes "file", heads.File) ∷ (codes "shared", heads.Shared) ∷ (codes "wild", heads.Wild) ∷ []

abbrev pub hosts_line : Heading → List (List ℕ) → Result Heading ScriptFault
hosts_line heading line = do
  w ← two_words line
  hosts ← number_between 1 most_hosts w.0
  frames ← number_between least_frames most_frames w.1
  Ok (record heading { frames = replicate hosts frames })

abbrev pub frames_line : Heading → List (List ℕ) → Result Heading ScriptFault
frames_line heading line = do
  w ← two_words line
  host ← host_in_word heading w.0
  frames ← number_between least_frames most_frames w.1
  Ok (record heading { frames = slice_set heading.frames host.0 frames })

abbrev pub page_line : Heading → List (List ℕ) → Result Heading ScriptFault
page_line heading line = do
  w ← one_word line
  size ← page_size w
  Ok (record heading { size = Some size })

abbrev pub slots_line : Heading → List (List ℕ) → Result Heading ScriptFault
slots_line heading line = do
  w ← one_word line
  slots ← number_between 0 most_slots w
  Ok (record heading { slots = Some slots })

abbrev pub object_line : ObjectKind → Heading → List (List ℕ) → Result Heading ScriptFault
object_line kind heading line = do
  w ← two_words line
  name ← new_name heading w.0
  pages ← number_between 1 most_pages w.1
  Ok (record heading { objects = record { name = name; kind = kind; pages = pages } ∷ heading.objects })

-- what stands once stands already
abbrev pub stands_already : Heading → HeaderWord → Bool
stands_already heading heads.Hosts = nat_lt 0 (length heading.frames)
stands_already heading heads.Page = is_some heading.size
stands_already heading heads.Slots = is_some heading.slots
stands_already heading _ = false

-- a header line behind no command
abbrev pub header_form : Heading → HeaderWord → List (List ℕ) → Result Heading ScriptFault
header_form heading heads.Hosts line = hosts_line heading line
header_form heading heads.Frames line =
    if nat_lt 0 (length heading.frames) then frames_line heading line else Err NoHosts
header_form heading heads.Page line = page_line heading line
header_form heading heads.Slots line = slots_line heading line
header_form heading heads.File line = object_line kinds.File heading line
header_form heading heads.Shared line = object_line kinds.Shared heading line
header_form heading heads.Wild line = object_line kinds.Wild heading line

-- ---- command lines

-- those that are rarer
abbrev pub rarer_words : List (List ℕ × CommandWord)
rarer_words =
    (codes "task", says.Task) ∷ (codes "map", says.Map) ∷ (codes "inherit", says.Inherit) ∷ (codes "copy", says.Copy) ∷ (codes "clean", says.Clean)
    ∷ (codes "cache", says.Cache) ∷ (codes "wire", says.Wire) ∷ (codes "unwire", says.Unwire) ∷ (codes "fail", says.Fail) ∷ (codes "say", says.Say) ∷ []

-- those that most lines begin with come first
abbrev pub command_words : List (List ℕ × CommandWord)
command_words =
    (codes "load", says.Load) ∷ (codes "store", says.Store) ∷ (codes "settle", says.Settle) ∷ (codes "take", says.Take)
    ∷ (codes "allocate", says.Allocate) ∷ (codes "deallocate", says.Deallocate) ∷ (codes "fork", says.Fork) ∷ (codes "exit", says.Exit)
    ∷ (codes "protect", says.Protect) ∷ (codes "pageout", says.Pageout) ∷ rarer_words

abbrev pub task_line : Heading → List (List ℕ) → Result Command ScriptFault
task_line heading line = do
  w ← two_words line
  task ← task_of w.0
  host ← host_in_word heading w.1
  Ok (commands.Task task host)

abbrev pub fork_line : List (List ℕ) → Result Command ScriptFault
fork_line line = do
  w ← two_words line
  task ← task_of w.0
  child ← task_of w.1
  Ok (commands.Fork task child)

abbrev pub exit_line : List (List ℕ) → Result Command ScriptFault
exit_line line = do
  w ← one_word line
  task ← task_of w
  Ok (commands.Exit task)

abbrev pub allocate_line : List (List ℕ) → Result Command ScriptFault
allocate_line line = do
  w ← three_words line
  range ← range_of w.0 w.1 w.2
  Ok (commands.Allocate range.0 range.1 range.2)

abbrev pub map_line : Heading → List (List ℕ) → Result Command ScriptFault
map_line heading line = do
  w ← five_words line
  range ← range_of w.0 w.1 w.2
  object ← object_of heading w.3
  offset ← number_between 0 most_pages w.4
  Ok (commands.Map range.0 range.1 range.2 object offset)

abbrev pub deallocate_line : List (List ℕ) → Result Command ScriptFault
deallocate_line line = do
  w ← three_words line
  range ← range_of w.0 w.1 w.2
  Ok (commands.Deallocate range.0 range.1 range.2)

abbrev pub protect_line : List (List ℕ) → Result Command ScriptFault
protect_line line = do
  w ← four_words line
  range ← range_of w.0 w.1 w.2
  prot ← prot_of w.3
  Ok (commands.Protect range.0 range.1 range.2 prot)

abbrev pub inherit_line : List (List ℕ) → Result Command ScriptFault
inherit_line line = do
  w ← four_words line
  range ← range_of w.0 w.1 w.2
  inherit ← inherit_of w.3
  Ok (commands.Inherit range.0 range.1 range.2 inherit)

abbrev pub load_line : List (List ℕ) → Result Command ScriptFault
load_line line = do
  w ← three_words line
  task ← task_of w.0
  address ← number_below address_end w.1
  size ← access_size w.2
  Ok (commands.Load task address size)

abbrev pub store_line : List (List ℕ) → Result Command ScriptFault
store_line line = do
  w ← four_words line
  task ← task_of w.0
  address ← number_below address_end w.1
  size ← access_size w.2
  value ← number_between 0 (256 ^ size - 1) w.3
  Ok (commands.Store task address size value)

abbrev pub copy_line : List (List ℕ) → Result Command ScriptFault
copy_line line = do
  w ← five_words line
  range ← range_of w.0 w.1 w.2
  target ← task_of w.3
  to ← number_below address_end w.4
  Ok (commands.Copy range.0 range.1 range.2 target to)

abbrev pub take_line : Heading → List (List ℕ) → Result Command ScriptFault
take_line heading line = do
  w ← one_word line
  channel ← channel_of heading w
  Ok (commands.Take channel)

abbrev pub settle_line : List (List ℕ) → Result Command ScriptFault
settle_line line = do
  w ← one_word line
  count ← number_between 0 most_takings w
  Ok (commands.Settle count)

abbrev pub host_count : Heading → List (List ℕ) → Result (HostId × ℕ) ScriptFault
host_count heading line = do
  w ← two_words line
  host ← host_in_word heading w.0
  count ← number_between 0 most_frames w.1
  Ok (host, count)

abbrev pub pageout_line : Heading → List (List ℕ) → Result Command ScriptFault
pageout_line heading line = do
  of ← host_count heading line
  Ok (commands.Pageout of.0 of.1)

abbrev pub wire_line : Heading → List (List ℕ) → Result Command ScriptFault
wire_line heading line = do
  of ← host_count heading line
  Ok (commands.Wire of.0 of.1)

abbrev pub unwire_line : Heading → List (List ℕ) → Result Command ScriptFault
unwire_line heading line = do
  of ← host_count heading line
  Ok (commands.Unwire of.0 of.1)

abbrev pub clean_line : Heading → List (List ℕ) → Result Command ScriptFault
clean_line heading line = do
  w ← four_words line
  object ← object_of heading w.0
  page ← page_number most_pages w.1
  count ← number_between 0 most_pages w.2
  flush ← flag_of w.3
  Ok (commands.Clean object page count flush)

abbrev pub cache_line : Heading → List (List ℕ) → Result Command ScriptFault
cache_line heading line = do
  w ← two_words line
  object ← object_of heading w.0
  cache ← flag_of w.1
  Ok (commands.Cache object cache)

-- `files` or `paging`
abbrev pub is_files : List ℕ → Result Bool ScriptFault
is_files word =
    if bytes_eq word (codes "files") then Ok true
    else (if bytes_eq word (codes "paging") then Ok false else Err UnknownWord)

abbrev pub fail_line : List (List ℕ) → Result Command ScriptFault
fail_line line = do
  w ← two_words line
  files ← is_files w.0
  count ← number_between 1 most_calls w.1
  Ok (if files then commands.FailFiles count else commands.FailPaging count)

-- ---- messages that a script says

abbrev pub message_words : List (List ℕ × MessageWord)
message_words =
    (codes "ready", sends.Ready) ∷ (codes "supply", sends.Supply) ∷ (codes "unavailable", sends.Unavailable)
    ∷ (codes "error", sends.Error) ∷ (codes "lock", sends.Lock) ∷ (codes "attributes", sends.Attributes)
    ∷ (codes "destroy", sends.Destroy) ∷ []

-- the host and the object that a message goes to
abbrev pub receiver_of : Heading → List ℕ → List ℕ → Result (HostId × ObjectId) ScriptFault
receiver_of heading host name = do
  h ← host_in_word heading host
  o ← object_of heading name
  Ok (h, o)

abbrev pub ready_said : Heading → List ℕ → List ℕ → List (List ℕ) → Result Command ScriptFault
ready_said heading host name line = do
  w ← two_words line
  to ← receiver_of heading host name
  cache ← flag_of w.0
  strategy ← number_between 0 3 w.1
  Ok (commands.Say to.0 to.1 (messages.Ready cache strategy))

abbrev pub supply_said : Heading → List ℕ → List ℕ → List (List ℕ) → Result Command ScriptFault
supply_said heading host name line = do
  w ← four_words line
  to ← receiver_of heading host name
  page ← page_number last_page w.0
  lock ← number_between 0 3 w.1
  precious ← flag_of w.2
  bytes ← page_bytes_of (size_of heading) w.3
  Ok (commands.Say to.0 to.1 (messages.Supply page lock precious bytes))

abbrev pub unavailable_said : Heading → List ℕ → List ℕ → List (List ℕ) → Result Command ScriptFault
unavailable_said heading host name line = do
  w ← one_word line
  to ← receiver_of heading host name
  page ← page_number last_page w
  Ok (commands.Say to.0 to.1 (messages.Unavailable page))

abbrev pub error_said : Heading → List ℕ → List ℕ → List (List ℕ) → Result Command ScriptFault
error_said heading host name line = do
  w ← two_words line
  to ← receiver_of heading host name
  page ← page_number last_page w.0
  reason ← number_below (2 ^ 32) w.1
  Ok (commands.Say to.0 to.1 (messages.Error page reason))

abbrev pub lock_said : Heading → List ℕ → List ℕ → List (List ℕ) → Result Command ScriptFault
lock_said heading host name line = do
  w ← six_words line
  to ← receiver_of heading host name
  page ← page_number last_page w.0
  count ← number_between 0 most_pages w.1
  returns ← number_between 0 2 w.2
  flush ← flag_of w.3
  lock ← lock_in_words w.4
  reply ← flag_of w.5
  Ok (commands.Say to.0 to.1 (messages.Lock page count returns flush lock reply))

abbrev pub attributes_said : Heading → List ℕ → List ℕ → List (List ℕ) → Result Command ScriptFault
attributes_said heading host name line = do
  w ← three_words line
  to ← receiver_of heading host name
  cache ← flag_of w.0
  strategy ← number_between 0 3 w.1
  reply ← flag_of w.2
  Ok (commands.Say to.0 to.1 (messages.Attributes cache strategy reply))

abbrev pub destroy_said : Heading → List ℕ → List ℕ → List (List ℕ) → Result Command ScriptFault
destroy_said heading host name line = do
  w ← one_word line
  to ← receiver_of heading host name
  reason ← number_below (2 ^ 32) w
  Ok (commands.Say to.0 to.1 (messages.Destroy reason))

-- where the message's word is unknown, the fields in front of it are read first
abbrev pub nothing_said : Heading → List ℕ → List ℕ → Result Command ScriptFault
nothing_said heading host name = receiver_of heading host name >>= λ to. Err UnknownWord

abbrev pub message_form : Heading → MessageWord → List ℕ → List ℕ → List (List ℕ) → Result Command ScriptFault
message_form heading sends.Ready host name line = ready_said heading host name line
message_form heading sends.Supply host name line = supply_said heading host name line
message_form heading sends.Unavailable host name line = unavailable_said heading host name line
message_form heading sends.Error host name line = error_said heading host name line
message_form heading sends.Lock host name line = lock_said heading host name line
message_form heading sends.Attributes host name line = attributes_said heading host name line
message_form heading sends.Destroy host name line = destroy_said heading host name line

abbrev pub say_line : Heading → List (List ℕ) → Result Command ScriptFault
say_line heading (host ∷ name ∷ word ∷ line) = elim (word_in message_words word) [
  | None ↦ nothing_said heading host name
  | Some meaning ↦ message_form heading meaning host name line
]
say_line heading _ = Err WrongCount

abbrev pub command_form : Heading → CommandWord → List (List ℕ) → Result Command ScriptFault
command_form heading says.Task line = task_line heading line
command_form heading says.Fork line = fork_line line
command_form heading says.Exit line = exit_line line
command_form heading says.Allocate line = allocate_line line
command_form heading says.Map line = map_line heading line
command_form heading says.Deallocate line = deallocate_line line
command_form heading says.Protect line = protect_line line
command_form heading says.Inherit line = inherit_line line
command_form heading says.Load line = load_line line
command_form heading says.Store line = store_line line
command_form heading says.Copy line = copy_line line
command_form heading says.Take line = take_line heading line
command_form heading says.Settle line = settle_line line
command_form heading says.Pageout line = pageout_line heading line
command_form heading says.Clean line = clean_line heading line
command_form heading says.Cache line = cache_line heading line
command_form heading says.Wire line = wire_line heading line
command_form heading says.Unwire line = unwire_line heading line
command_form heading says.Fail line = fail_line line
command_form heading says.Say line = say_line heading line
