-- When events start and end, and the gaps between them.
use Rattle.std.specs.Prelude.{◌≡◌, ◌+◌, ◌≤◌, ℕ}
use Rattle.mdb_words.specs.declared.event.Event.{Event}
use Rattle.mdb_words.specs.declared.event.Event.TheVariants.{Word, Break}

-- when an event starts
abbrev pub start_of : Event → ℕ
start_of (Word at line word) = at
start_of (Break at length) = at

-- from when the gap to a later event counts: a word's start, but a break's end
abbrev pub end_of : Event → ℕ
end_of (Word at line word) = at
end_of (Break at length) = at + length

-- the gap from one event to a later one: it counts from a word's start and from a break's end
abbrev pub IsGap : Event → Event → ℕ → Type 0
IsGap earlier later gap = end_of earlier + gap ≡ start_of later

-- the later event starts at least so long after the earlier one: the gap counts from a word's start
-- and a break's end, so an event that starts inside a break isn't even 0 after it
abbrev pub AtLeast : ℕ → Event → Event → Type 0
AtLeast least earlier later = end_of earlier + least ≤ start_of later

-- the later event starts at most so long after the earlier one: the gap counts from a word's start
-- and a break's end, and an event that starts inside a break is at most 0 after it
abbrev pub AtMost : ℕ → Event → Event → Type 0
AtMost most earlier later = start_of later ≤ end_of earlier + most
