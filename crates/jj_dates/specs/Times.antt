-- Timestamps: their offsets and the range of dates.
-- Cited by contracts of public items: HasOffset, IsDate, nanoseconds, nanoseconds_in_millisecond,
-- offset_seconds, seconds_in_minute.
use Rattle.std.specs.Prelude.{◌≡◌, ℤ, pos, negsuc, ◌*ℤ◌, ◌≤ℤ◌, ◌&&◌, if◌then◌else◌, int_le}
use Rattle.jiff.specs.Words.{plain_zoned, fixed_zone, IsTimestampNanos}
use Rattle.jiff.specs.declared.zoned.Zoned.{Zoned}
use Rattle.jj_backend.specs.declared.backend.timestamp.Timestamp.{Timestamp}

-- the number of seconds in a minute
abbrev pub seconds_in_minute : ℤ
seconds_in_minute = pos 60

-- the number of nanoseconds in a millisecond
abbrev pub nanoseconds_in_millisecond : ℤ
nanoseconds_in_millisecond = pos 1_000_000

-- milliseconds in nanoseconds
abbrev pub nanoseconds : ℤ → ℤ
nanoseconds millis = millis *ℤ nanoseconds_in_millisecond

-- an offset in seconds of at most a day east or west of UTC
abbrev pub IsWithinDay : ℤ → Type 0
IsWithinDay seconds = (negsuc 86399 ≤ℤ seconds) × (seconds ≤ℤ pos 86400)

-- the least and the greatest offset in minutes: one minute less than a day, west and east
abbrev pub least_offset : ℤ
least_offset = negsuc 1438

-- the greatest offset of a time zone, in minutes
abbrev pub greatest_offset : ℤ
greatest_offset = pos 1439

-- the seconds of an offset in minutes; an offset of a day or more counts as UTC
abbrev pub offset_seconds : ℤ → ℤ
offset_seconds minutes = if int_le least_offset minutes && int_le minutes greatest_offset
    then minutes *ℤ seconds_in_minute else pos 0

-- the time zone of the date has this fixed offset from UTC
abbrev pub HasOffset : Zoned → ℤ → Type 0
HasOffset date seconds = (o : _) × ((plain_zoned date).time_zone ≡ fixed_zone o)
    × (o.seconds ≡ seconds)

-- the timestamp is within the range of dates
abbrev pub IsDate : Timestamp → Type 0
IsDate time = IsTimestampNanos (nanoseconds time.timestamp.0)
