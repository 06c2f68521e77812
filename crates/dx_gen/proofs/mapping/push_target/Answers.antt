use Rattle.std.proofs.Common.{◌++◌}
use Rattle.std.specs.Prelude.{codes, string_bytes}
use Rattle.dx_gen.proofs.Pushed.{front}
use Rattle.dx_gen.proofs.mapping.push_target.Goals as goal

pub returns : goal.returns
returns c =
    let last = string_bytes c.push_str-6.new.self in
    let from_5 = front (string_bytes c.push_str-4.new.self) (string_bytes c.push_str-5.new.self) last (codes "  set number { num, who; }\n") (codes "}\n") c.in_ok-push_str-5.ensures.bytes c.in_ok-push_str-6.ensures.bytes in
    let from_4 = front (string_bytes c.push_str-3.new.self) (string_bytes c.push_str-4.new.self) last (codes "  }\n") (codes "  set number { num, who; }\n" ++ (codes "}\n")) c.in_ok-push_str-4.ensures.bytes from_5 in
    let from_3 = front (string_bytes c.push_str-2.new.self) (string_bytes c.push_str-3.new.self) last (codes "    set staff { sid, sname, phone; key (sid); }\n") (codes "  }\n" ++ (codes "  set number { num, who; }\n" ++ (codes "}\n"))) c.in_ok-push_str-3.ensures.bytes from_4 in
    let from_2 = front (string_bytes c.push_str.new.self) (string_bytes c.push_str-2.new.self) last (codes "  set unit { uname, place; key (uname);\n") (codes "    set staff { sid, sname, phone; key (sid); }\n" ++ (codes "  }\n" ++ (codes "  set number { num, who; }\n" ++ (codes "}\n")))) c.in_ok-push_str-2.ensures.bytes from_3 in
    front (string_bytes c.args.out.now) (string_bytes c.push_str.new.self) last (codes "target {\n") (codes "  set unit { uname, place; key (uname);\n" ++ (codes "    set staff { sid, sname, phone; key (sid); }\n" ++ (codes "  }\n" ++ (codes "  set number { num, who; }\n" ++ (codes "}\n"))))) c.in_ok-push_str.ensures.bytes from_2
