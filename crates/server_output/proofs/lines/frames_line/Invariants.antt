use Rattle.std.proofs.Common.{◌≡◌, ◌+◌, ◌++◌, codes, flat_map, length}
use Rattle.server_output.specs.Texts.{frame_word}
use Rattle.server_output.proofs.lines.frames_line.Given as goal

-- the text so far and the words of the remaining frames are together the text with all frames
abbrev pub invariant-loop-frame : goal.invariant-loop-frame
invariant-loop-frame l = record {
  text : l.text.items ++ flat_map frame_word l.frames ≡ codes "OK" ++ flat_map frame_word l.initial.frames;
  left : length l.frames + l._frame ≡ length l.initial.frames;
}
