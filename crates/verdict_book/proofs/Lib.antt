mod Ruled
