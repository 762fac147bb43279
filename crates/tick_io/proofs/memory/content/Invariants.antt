use Rattle.std.proofs.Common.{◌≡◌, drop, map}
use Rattle.tick_io.specs.Files.{content_of, file_of}
use Rattle.tick_io.proofs.memory.content.Given as goal

-- the first file of the name is among those that are left
abbrev pub invariant-loop-own_name : goal.invariant-loop-own_name
invariant-loop-own_name l =
    content_of (map file_of (drop l.own_name-index l.files)) l.name ≡ content_of (map file_of l.files) l.name
