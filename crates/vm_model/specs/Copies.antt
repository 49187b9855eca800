-- The messages that carry the bytes of a page.
use Rattle.std.specs.Prelude.{ℕ, ◌≡◌, Bool, true, false, length}
use Rattle.vm_model.specs.declared.message.Message.{Message}
use Rattle.vm_model.specs.declared.message.Message.TheVariants as message

-- a message has the bytes of a page
abbrev pub carries_page : Message → Bool
carries_page (message.Return control page dirty keep hex) = true
carries_page (message.Supply page lock precious hex) = true
carries_page other = false

-- the page that a message has is of this size
abbrev pub HasPageOf : ℕ → Message → Type 0
HasPageOf size (message.Return control page dirty keep hex) = length hex ≡ size
HasPageOf size (message.Supply page lock precious hex) = length hex ≡ size
HasPageOf size (message.Init control bytes) = Unit {0}
HasPageOf size (message.Create control bytes) = Unit {0}
HasPageOf size (message.Request control page access) = Unit {0}
HasPageOf size (message.Unlock control page access) = Unit {0}
HasPageOf size (message.Completed control page count) = Unit {0}
HasPageOf size (message.Terminate control) = Unit {0}
HasPageOf size (message.Ready cache strategy) = Unit {0}
HasPageOf size (message.Unavailable page) = Unit {0}
HasPageOf size (message.Error page reason) = Unit {0}
HasPageOf size (message.Lock page count returns flush lock reply) = Unit {0}
HasPageOf size (message.Attributes cache strategy reply) = Unit {0}
HasPageOf size (message.Destroy reason) = Unit {0}
HasPageOf size (message.Changed control cache strategy) = Unit {0}

-- a pager speaks of pages, and brings none
abbrev pub is_from_pager : Message → Bool
is_from_pager (message.Unavailable page) = true
is_from_pager (message.Error page reason) = true
is_from_pager (message.Lock page count returns flush lock reply) = true
is_from_pager other = false

-- the same, or a kernel asks of pages or tells of them
abbrev pub is_of_pages : Message → Bool
is_of_pages (message.Request control page access) = true
is_of_pages (message.Unlock control page access) = true
is_of_pages (message.Completed control page count) = true
is_of_pages other = is_from_pager other
